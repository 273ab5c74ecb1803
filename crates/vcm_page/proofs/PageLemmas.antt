-- The parts of a page, and the runs that it is made of.
use Rattle.std.proofs.Common.{◌≡◌, ℕ, ◌<◌, Bool, List, ◌++◌, length, Option, refl, sym, ap, ◌∙◌, subst, arith, append_assoc, length-append}
use Rattle.std.specs.Prelude.{codes}
use Rattle.std.specs.Io.KnownBytes.{Appends}
use Rattle.std.proofs.KnownBytes.{Keeps-refl}
use Rattle.vcm_num.specs.Written.{AppendsFront}
use Rattle.vcm_num.proofs.KnownWrites.{appends_nothing, appends_more, front_then, front_first}
use Rattle.vcm_spec.specs.declared.stop.StopPlace.{StopPlace}
use Rattle.vcm_spec.specs.Workpiece.{Workpiece}
use Rattle.vcm_program.specs.declared.accepted.Noticed.{Noticed}
use Rattle.vcm_code.specs.declared.code.Code.{Code}
use Rattle.vcm_machine.specs.declared.ran.End.{End}
use Rattle.vcm_machine.specs.declared.ran.End.TheVariants as ends
use Rattle.vcm_machine.specs.declared.ran.Ran.{Ran}
use Rattle.vcm_machine.specs.Running.{Running, started, later, RunEnded, HasRun}
use Rattle.vcm_steps.specs.Passages.{steps_taken}
use Rattle.vcm_job.specs.Jobs.{status_of}
use Rattle.vcm_job.specs.declared.fault.Fault.{Fault}
use Rattle.vcm_job.specs.declared.fault.InputRefusal.{InputRefusal}
use Rattle.vcm_job.specs.declared.fault.Fault.TheVariants as faults
use Rattle.vcm_page.specs.Views.{IsHaltedAfter}
use Rattle.vcm_story.specs.Stories.{TookFront, IsStory, story_text}
use Rattle.vcm_page.specs.Pages.{not_shown, page_text, story_of}
use Rattle.vcm_page.specs.inner.Written.{IsWritten, IsNotWritten, IsNotCounted}

-- ---- texts

-- a front of what stands before more is not all
strict : (b d : Option (List ℕ)) (xs more : List ℕ) → 0 < length more → TookFront b d xs → AppendsFront b d (xs ++ more)
strict b d xs more l k =
    let some : 0 < length (k.1 ++ more) = omega (arith, length-append k.1 more, l) in
    front_then b d d k.0 (k.1 ++ more) (xs ++ more) (sym (append_assoc k.0 k.1 more) ∙ ap (λ x. x ++ more) k.2) k.3 (0, some, appends_nothing d)

module _ (front story back : List ℕ) (a b : Option (List ℕ)) where
  abbrev behind : List ℕ
  behind = codes "</script>\n" ++ back

  abbrev page : List ℕ
  page = page_text front story back

  -- what stands before the story could not be written
  pub front_cut : AppendsFront a b front → AppendsFront a b page
  front_cut h = front_first a b front (story ++ behind) page refl h

  module _ (h : Appends a b front) (d : Option (List ℕ)) where
    -- the story could not
    pub story_cut : TookFront b d story → AppendsFront a d page
    story_cut k =
        let some : 0 < length behind = omega (arith, length-append (codes "</script>\n") back) in
        front_then a b d front (story ++ behind) page refl h (strict b d story behind some k)

    module _ (part : Workpiece) (c : Code) (n : ℕ) (stop : Option StopPlace) (told : IsStory part c story n stop b d) (e : Option (List ℕ)) where
      -- what stands behind it could not
      pub back_cut : AppendsFront d e behind → AppendsFront a e page
      back_cut k = front_then a b e front (story ++ behind) page refl h (front_then b d e story behind (story ++ behind) refl told.written k)

      pub all_written : Appends d e behind → IsStory part c page n stop a e
      all_written k = record {
        stop_is = told.stop_is;
        written = appends_more a b e front (story ++ behind) page refl h (appends_more b d e story behind (story ++ behind) refl told.written k);
      }

-- ---- the run that counts

module _ (w : Workpiece) (c : Code) (n : ℕ) (old new : Running) (ran : Ran) (is : old ≡ started w c) (run : HasRun n old new ran) where
  ended : RunEnded n (started w c) new ran.done ran.end
  ended = subst (λ o. RunEnded n o new ran.done ran.end) is run.ended

  pub counted : (ran.end ≡ ends.NoMemory → ⊥) → ran.done ≡ steps_taken w c n
  counted ample = by ran.end refl
    where
      by : (x : End) → ran.end ≡ x → ran.done ≡ steps_taken w c n
      by ends.Count e = let r = subst (λ x. RunEnded n (started w c) new ran.done x) e ended in r.0 ∙ r.1
      by ends.Stopped e = (subst (λ x. RunEnded n (started w c) new ran.done x) e ended).0
      by ends.NoMemory e = absurd (ample e)

  pub halted : ran.end ≡ ends.NoMemory → IsHaltedAfter w c n ran.done
  halted e =
      let there : new ≡ later ran.done (started w c) = run.new_is ∙ ap (later ran.done) is in
      subst (λ m. RunEnded n (started w c) m ran.done ends.NoMemory) there (subst (λ x. RunEnded n (started w c) new ran.done x) e ended)

-- why they were not counted is why the page was not written
pub not_counted : (w part : Workpiece) → w ≡ part → (c : Code) (text : List ℕ) (n : ℕ) (f : Fault InputRefusal) (old : Option (List ℕ)) → IsNotCounted w c n f → IsNotWritten part c text n f old old
not_counted w part same c text n (faults.Memory done) old h = (subst (λ p. IsHaltedAfter p c n done) same h, Keeps-refl old)
not_counted w part same c text n faults.NoMemory old h = Keeps-refl old
not_counted w part same c text n (faults.Write done) old h = absurd h
not_counted w part same c text n (faults.Refused r) old h = absurd h
not_counted w part same c text n faults.Read old h = absurd h
not_counted w part same c text n faults.TooLong old h = absurd h

-- ---- the page of a counted run

module _ (front back : List ℕ) (part : Workpiece) (c : Code) (shown : List ℕ) (is_listing : Bool) (notices : List Noticed) (n done from : ℕ)
    (counted_is : done ≡ steps_taken part c n) (from_is : from ≡ not_shown done) (a b : Option (List ℕ)) where
  text_is : page_text front (story_text part c shown is_listing notices from n) back ≡ page_text front (story_of part c shown is_listing notices n) back
  text_is = ap (λ k. page_text front (story_text part c shown is_listing notices k n) back) (from_is ∙ ap not_shown counted_is)

  pub page_written : (stop : Option StopPlace) (status : ℕ) → status ≡ status_of stop → IsStory part c (page_text front (story_text part c shown is_listing notices from n) back) n stop a b
      → IsWritten part c (page_text front (story_of part c shown is_listing notices n) back) n status a b
  page_written stop status s t = record { written = subst (λ l. Appends a b l) text_is t.written; status_is = s ∙ ap status_of t.stop_is }

  pub page_cut : AppendsFront a b (page_text front (story_text part c shown is_listing notices from n) back) → AppendsFront a b (page_text front (story_of part c shown is_listing notices n) back)
  page_cut t = subst (λ l. AppendsFront a b l) text_is t
