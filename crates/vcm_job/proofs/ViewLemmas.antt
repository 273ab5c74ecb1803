-- From the view of an image to that of the input that was read.
use Rattle.std.proofs.Common.{◌≡◌, ℕ, Bool, true, false, List, Option, Some, None, refl, sym, subst}
use Rattle.std.specs.Prelude.{not, is_some, IfSome, IfErr, Result}
use Rattle.std.specs.Option.{option_map}
use Rattle.std.specs.Global.{Vec}
use Rattle.vcm_spec.specs.Workpiece.{Workpiece}
use Rattle.vcm_program.specs.declared.accepted.Noticed.{Noticed}
use Rattle.vcm_code.specs.declared.code.Code.{Code}
use Rattle.vcm_image.specs.Whole.{code_at}
use Rattle.vcm_loader.specs.Loading.{LoadFault}
use Rattle.vcm_job.specs.declared.fault.Fault.{Fault}
use Rattle.vcm_job.specs.declared.fault.Fault.TheVariants as faults
use Rattle.vcm_job.specs.declared.fault.InputRefusal.{InputRefusal}
use Rattle.vcm_job.specs.declared.fault.InputRefusal.TheVariants.{Text, Image}
use Rattle.vcm_job.specs.Inputs.{is_image, IsInputRefusal}
use Rattle.vcm_job.specs.Given.{IsImageOf, CodeAs, text_as, ImageAs, IsGiven}
use Rattle.vcm_job.specs.Views.{RunView, IsViewed, IsCutShort, IsImageViewed, IsImageNotViewed, IsShown, IsNotShown, IsNoView}
use Rattle.vcm_job.specs.inner.Viewing.{judged, IsInputNotViewed}
use Rattle.vcm_job.proofs.UnreadLemmas.{known, none_written_of}

-- the code of an image that was given is that of the input
code_given : (b : Bool) (input image : List ℕ) (c : Code) (notices : List Noticed) → ImageAs b input image notices → IsImageOf image c → CodeAs b input c notices
code_given true input image c notices h k = (subst (λ l. IsImageOf l c) h.0 k, h.1)
code_given false input image c notices h k = (image, (h, k))

-- a text was given where the input is one
pub text_there : (b : Bool) (input : List ℕ) (o : Option (Vec ℕ)) → option_map (λ t. t.items) o ≡ text_as b input → is_some o ≡ not b
text_there true input None e = refl
text_there true input (Some t) e = absurd cc
text_there false input None e = absurd cc
text_there false input (Some t) e = refl

module _ (view : RunView) (part : Workpiece) (input image : List ℕ) (o : Option (Vec ℕ)) (notices : List Noticed) (n : ℕ)
    (g : IsGiven input image (option_map (λ t. t.items) o) notices) where
  abbrev text : Option (List ℕ)
  text = option_map (λ t. t.items) o

  pub view_given : (status : ℕ) (old new : Option (List ℕ)) → IsImageViewed view text notices part image n status old new → IsShown view part input n status notices old new
  view_given status old new h = record {
    code = h.code;
    is_code = code_given (is_image input) input image h.code notices g.image_is h.is_code;
    viewed = subst (λ t. IsViewed view t notices part h.code n status old new) g.text_is h.viewed;
  }

  cut_given : (f : Fault InputRefusal) (old new : Option (List ℕ)) (c : Code) → IsImageOf image c → IsCutShort view text notices part c n f old new
      → IsNotShown view part input n f old new
  cut_given f old new c h k = record {
    code = c;
    notices = notices;
    is_code = code_given (is_image input) input image c notices g.image_is h;
    cut_short = subst (λ t. IsCutShort view t notices part c n f old new) g.text_is k;
  }

  -- an image that was read is refused so; one that was built is not, but for want of memory
  refused_as : (b : Bool) → is_image input ≡ b → ImageAs b input image notices → (e : Option (List ℕ)) (old new : Option (List ℕ)) → (r : InputRefusal)
      → IsImageNotViewed view text notices part image n (faults.Refused r) old new → IsInputNotViewed view part input n (judged (not b) (faults.Refused r)) old new
  refused_as true is h e old new (Image f) k = ((is, subst (λ l. LoadFault (code_at l) f) h.0 k.0), k.1)
  refused_as false is h e old new (Image f) k = (tt, k.1)
  refused_as b is h e old new (Text r) k = absurd k.cut_short

  fault_as : (b : Bool) → is_image input ≡ b → ImageAs b input image notices → (f : Fault InputRefusal) (old new : Option (List ℕ))
      → IsImageNotViewed view text notices part image n f old new → IsInputNotViewed view part input n (judged (not b) f) old new
  fault_as b is h (faults.Refused r) old new k = refused_as b is h None old new r k
  fault_as true is h faults.NoMemory old new k = (tt, k.cut_short)
  fault_as false is h faults.NoMemory old new k = (tt, k.cut_short)
  fault_as true is h (faults.Memory done) old new k = cut_given (faults.Memory done) old new k.code k.is_code k.cut_short
  fault_as false is h (faults.Memory done) old new k = cut_given (faults.Memory done) old new k.code k.is_code k.cut_short
  fault_as true is h (faults.Write done) old new k = cut_given (faults.Write done) old new k.code k.is_code k.cut_short
  fault_as false is h (faults.Write done) old new k = cut_given (faults.Write done) old new k.code k.is_code k.cut_short
  fault_as b is h faults.Read old new k = absurd k.cut_short
  fault_as b is h faults.TooLong old new k = absurd k.cut_short

  pub fault_given : (f : Fault InputRefusal) (old new : Option (List ℕ)) → IsImageNotViewed view text notices part image n f old new
      → IsInputNotViewed view part input n (judged (is_some o) f) old new
  fault_given f old new k =
      subst (λ b. IsInputNotViewed view part input n (judged b f) old new) (sym (text_there (is_image input) input o g.text_is))
      (fault_as (is_image input) refl g.image_is f old new k)

pub no_view_of : {A : Type 0} (view : RunView) (part : Workpiece) (n : ℕ) (a b : Option (List ℕ)) (bytes : List ℕ) (r : Result A (Fault InputRefusal)) (old new : Option (List ℕ))
    → IfSome a (λ input. bytes ≡ input) → IfErr r (λ f. IsInputNotViewed view part bytes n f old new) → IfErr r (λ f. IsNoView view part n a b f old new)
no_view_of view part n a b bytes r old new all h =
    none_written_of IsInputRefusal a b bytes all _ _ (λ done. IsNotShown view part bytes n (faults.Memory done)) (λ done. IsNotShown view part bytes n (faults.Write done)) old new
    (λ done p. known a _ _ all (λ input is. subst (λ i. IsNotShown view part i n (faults.Memory done) old new) is p))
    (λ done p. known a _ _ all (λ input is. subst (λ i. IsNotShown view part i n (faults.Write done) old new) is p)) r h
