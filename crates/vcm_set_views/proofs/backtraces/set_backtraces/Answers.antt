use Rattle.std.proofs.Common.{◌≡◌, ℕ, List, [], map, Vec, Global, ap, ◌∙◌}
use Rattle.std.specs.Prelude.{replicate}
use Rattle.vcm_code.specs.declared.code.Code.{Code}
use Rattle.vcm_set_views.specs.Backtraces.{SoFar, told_behind}
use Rattle.vcm_set_views.specs.Fit.{Fit, steps_of}
use Rattle.vcm_set_views.proofs.Backtraced.{so_far, told_all}
use Rattle.vcm_set_views.proofs.backtraces.set_backtraces.Goals as goal

pub returns : goal.returns
returns c =
    let f = c.args.fitted.now in
    let e = c.in_ok-_ending._ending.end in
    let s = c.in_ok-source.source in
    let loaded = c.fitted.inside.loaded.now in
    let wanted = c.args.wanted.now in
    let steps = steps_of f e.done in
    let items = λ (ts : List (Vec ℕ Global)). map (λ (v : Vec ℕ Global). v.items) ts in
    let told = λ (k : Code) (ts : List (Vec ℕ Global)). told_behind s k.statements f.code.tables wanted (so_far (items ts) (replicate 32 0)) steps in
    record {
      traced = s;
      is_traced = c.in_ok-source.ensures;
      end = e;
      ended = c.in_ok-_ending.ensures.end.ended;
      told_is = ap (λ (t : SoFar). t.texts) (told_all (λ t. items t.texts.items) (λ t. t.rounds) s loaded.statements f.code.tables wanted f.part f.probes _ c.run_seen.new.to steps
          c.in_ok-_ending.ensures.seen)
          ∙ ap (λ (ts : List (Vec ℕ Global)). (told loaded ts).texts) c.new.ensures.items
          ∙ ap (λ (k : Code). (told k []).texts) (ap (λ (k : Fit). k.code) c.fitted.view_is);
    }
