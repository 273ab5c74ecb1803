-- What the statements that need no motion do to the state of the machine.
use Rattle.std.proofs.Common.{◌≡◌, ℕ, ℤ, Bool, true, false, [], Some, None, refl, sym, ap}
use Rattle.std.specs.Prelude.{slice_set, slice_get, unwrap_or, unsigned_abs, if◌then◌else◌}
use Rattle.vcm_num.specs.declared.axis.Axis.{Axis}
use Rattle.vcm_num.specs.Point.{point}
use Rattle.vcm_spec.specs.declared.feature.Feature.{Feature}
use Rattle.vcm_spec.specs.declared.stop.Stop.{Stop}
use Rattle.vcm_spec.specs.declared.stop.Stop.TheVariants.{Undefined, BadSetting}
use Rattle.vcm_spec.specs.declared.stop.Missing.TheVariants as missing
use Rattle.vcm_spec.specs.declared.words.Setting.{Setting}
use Rattle.vcm_spec.specs.declared.words.Source.{Source}
use Rattle.vcm_spec.specs.declared.words.FrameAxis.{FrameAxis}
use Rattle.vcm_spec.specs.declared.words.Quarters.{Quarters}
use Rattle.vcm_spec.specs.declared.words.FeatureWord.{FeatureWord}
use Rattle.vcm_spec.specs.Frame.{Frame, turned_frame}
use Rattle.vcm_spec.specs.Setup.{Setup}
use Rattle.vcm_spec.specs.Texts.{feature_line}
use Rattle.vcm_spec.specs.World.{Settings, World, with_variable}
use Rattle.vcm_spec.specs.Outcome.{Gives, Stops, ◌>>=◌, demand, found}
use Rattle.vcm_spec.specs.declared.simple.Simple.TheVariants.{Feat, SnSet, Rotate, Recall, Obtain, Output, Text}
use Rattle.vcm_spec.specs.Effect.{carried_out, with_line, feature_in, at_index, is_allowed, with_setting, word_of}
use Rattle.vcm_state.proofs.Moves.{gives_on, stops_on}

module _ (setup : Setup) (w : World) where
  pub rotated : (i : ℕ) (axis : FrameAxis) (n : Quarters) (f : Frame) → f ≡ turned_frame w.frame axis n
      → carried_out setup w (Rotate i axis n) ≡ Gives (record w { frame = f; saved = slice_set w.saved i (Some f) })
  unfolding carried_out
  rotated i axis n f e = rw e refl

  pub recalled : (i : ℕ) (f : Frame) → Some f ≡ at_index w.saved i → carried_out setup w (Recall i) ≡ Gives (record w { frame = f })
  unfolding carried_out
  recalled i f e = ap (λ o. found o (Undefined (missing.Frame i)) >>= (λ g. Gives (record w { frame = g }))) (sym e)

  pub unsaved : (i : ℕ) → None ≡ at_index w.saved i → carried_out setup w (Recall i) ≡ Stops (Undefined (missing.Frame i))
  unfolding carried_out
  unsaved i e = ap (λ o. found o (Undefined (missing.Frame i)) >>= (λ g. Gives (record w { frame = g }))) (sym e)

  pub declared : (i : ℕ) (x y z : ℤ) (d : Axis)
      → carried_out setup w (Feat i x y z d) ≡ Gives (record w { nominal = slice_set w.nominal i (Some (record { at = point x y z; toward = d })) })
  unfolding carried_out
  declared i x y z d = refl

  module _ (v : ℕ) (source : Source) (i : ℕ) (word : FeatureWord) where
    pub unobtained : (why : Stop) → feature_in w source i ≡ Stops why → carried_out setup w (Obtain v source i word) ≡ Stops why
    unfolding carried_out
    unobtained why e = stops_on _ why (λ f. Gives (with_variable w v (word_of f word))) e

    pub obtained : (f : Feature) → feature_in w source i ≡ Gives f
        → carried_out setup w (Obtain v source i word) ≡ Gives (record w { variables = slice_set w.variables v (word_of f word) })
    unfolding carried_out with_variable
    obtained f e = gives_on _ f (λ f. Gives (with_variable w v (word_of f word))) e

  module _ (source : Source) (i : ℕ) where
    pub unprinted : (why : Stop) → feature_in w source i ≡ Stops why → carried_out setup w (Output source i) ≡ Stops why
    unfolding carried_out
    unprinted why e = stops_on _ why (λ f. with_line w (feature_line source (unwrap_or (slice_get setup.tables.features i) []) f)) e

    -- where the feature is there, OUTPUT is TEXT with its line
    pub printed : (f : Feature) → feature_in w source i ≡ Gives f
        → carried_out setup w (Output source i) ≡ carried_out setup w (Text (feature_line source (unwrap_or (slice_get setup.tables.features i) []) f))
    unfolding carried_out
    printed f e = gives_on _ f (λ f. with_line w (feature_line source (unwrap_or (slice_get setup.tables.features i) []) f)) e

  module _ (which : Setting) (z : ℤ) where
    pub set_to : (s : Settings) → Some s ≡ (if is_allowed which z then Some (with_setting w.settings which (unsigned_abs z)) else None)
        → carried_out setup w (SnSet which z) ≡ Gives (record w { settings = s })
    unfolding carried_out
    set_to s = by (is_allowed which z) (with_setting w.settings which (unsigned_abs z))
      where
        by : (b : Bool) (t : Settings) → Some s ≡ (if b then Some t else None) → demand b BadSetting >>= (λ _. Gives (record w { settings = t })) ≡ Gives (record w { settings = s })
        by true t e = let same : t ≡ s = cc in ap (λ r. Gives (record w { settings = r })) same
        by false t e = cc

    pub bad_setting : None ≡ (if is_allowed which z then Some (with_setting w.settings which (unsigned_abs z)) else None)
        → carried_out setup w (SnSet which z) ≡ Stops BadSetting
    unfolding carried_out
    bad_setting = by (is_allowed which z) (with_setting w.settings which (unsigned_abs z))
      where
        by : (b : Bool) (t : Settings) → None ≡ (if b then Some t else None) → demand b BadSetting >>= (λ _. Gives (record w { settings = t })) ≡ Stops BadSetting
        by true t e = cc
        by false t e = refl
