-- Sessions whose run stands elsewhere.
use Rattle.std.proofs.Common.{◌≡◌, ℤ, Bool, List, length, sym, ap, ◌∙◌, subst}
use Rattle.vcm_code.specs.declared.code.Code.{Code}
use Rattle.vcm_image.specs.Whole.{FitsImage}
use Rattle.vcm_set_debug.specs.Reached.{Reached}
use Rattle.vcm_set_debug.specs.inner.Going.{HasRoom}

-- the same code has the same room
pub kept_room : (old new : Reached) (breakpoints watches : List Bool) (before after : List ℤ) → HasRoom old breakpoints watches before → new.code ≡ old.code
    → length after ≡ length old.code.tables.variables → HasRoom new breakpoints watches after
kept_room old new breakpoints watches before after h e f = record {
  statements = h.statements ∙ ap (λ (c : Code). length c.statements) (sym e);
  variables = h.variables ∙ ap (λ (c : Code). length c.tables.variables) (sym e);
  room = f ∙ ap (λ (c : Code). length c.tables.variables) (sym e);
  fits = subst FitsImage (sym e) h.fits;
}
