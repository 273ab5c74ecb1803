-- What stands behind the word of each statement, written once: its places in order, and how a statement is made of their values and taken apart. The values
-- of the small tables.
use Rattle.std.specs.Prelude.{ℕ, List, [], ◌∷◌, ◌++◌, map, Option, Some, None}
use Rattle.vcm_num.specs.declared.number.Kind.{Kind}
use Rattle.vcm_num.specs.declared.number.Kind.TheVariants.{Int, Real, Bool as Truths}
use Rattle.vcm_num.specs.declared.axis.Axis.{Axis}
use Rattle.vcm_num.specs.declared.axis.Axis.TheVariants.{PlusX, MinusX, PlusY, MinusY, PlusZ, MinusZ}
use Rattle.vcm_spec.specs.declared.words.Setting.{Setting}
use Rattle.vcm_spec.specs.declared.words.Setting.TheVariants.{Approach, Retract, Search, Depth}
use Rattle.vcm_spec.specs.declared.words.Source.{Source}
use Rattle.vcm_spec.specs.declared.words.Source.TheVariants.{Nominal, Actual}
use Rattle.vcm_spec.specs.declared.words.FrameAxis.{FrameAxis}
use Rattle.vcm_spec.specs.declared.words.FrameAxis.TheVariants as frame_axis
use Rattle.vcm_spec.specs.declared.words.Quarters.{Quarters}
use Rattle.vcm_spec.specs.declared.words.Quarters.TheVariants as quarter
use Rattle.vcm_spec.specs.declared.words.FeatureWord.{FeatureWord}
use Rattle.vcm_spec.specs.declared.words.FeatureWord.TheVariants as feature_word
use Rattle.vcm_spec.specs.declared.expression.Item.{Item}
use Rattle.vcm_code.specs.declared.branch.Branch.{Branch}
use Rattle.vcm_spec.specs.declared.simple.Simple.TheVariants.{Goto, GoHome, Assign, Feat, PtMeas, SnSet, Trans, Rotate, Recall, Obtain, Output, Text}
use Rattle.vcm_code.specs.declared.word.Word.{Word}
use Rattle.vcm_code.specs.declared.word.Word.TheVariants as words
use Rattle.vcm_code.specs.Code.{Op}
use Rattle.vcm_code.specs.declared.op.Op.TheVariants.{Plain, If, Else, EndIf, Do, EndDo, Label, JumpTo, Meas, EndMes, Select, Case, EndCas, DftCas, EndSel}
use Rattle.vcm_code.specs.declared.op.Op.TheVariants.{EndFil}

-- a place of a statement: a variable of a kind, a feature, a frame, the number of a loop's pair, a target, an expression of a kind, three of them, a
-- variable and an expression of its kind, a direction, one of a measurement, a setting, a source, the axis of a turn, its quarters, the word of a
-- feature, a text, the branches of a SELECT
pub data Place : Type 0 where
  variable : Kind → Place
  feature : Place
  frame : Place
  pair : Place
  target : Place
  items : Kind → Place
  three : Kind → Place
  assigned : Place
  axis : Place
  direction : Place
  setting : Place
  source : Place
  turn : Place
  quarters : Place
  part : Place
  text : Place
  branches : Place

-- what stands there: indexes as numbers; a direction of a measurement is none where it is the nominal feature's
abbrev pub Said : Place → Type 0
Said (variable k) = ℕ
Said feature = ℕ
Said frame = ℕ
Said pair = ℕ
Said target = ℕ
Said (items k) = List Item
Said (three k) = List Item × (List Item × List Item)
Said assigned = ℕ × List Item
Said axis = Axis
Said direction = Option Axis
Said setting = Setting
Said source = Source
Said turn = FrameAxis
Said quarters = Quarters
Said part = FeatureWord
Said text = List ℕ
Said branches = List Branch

-- what stands in places: in one place its value, in more the first one's value and what stands in the others
abbrev pub Filled : List Place → Type 0
Filled [] = Unit {0}
Filled (p ∷ []) = Said p
Filled (p ∷ q ∷ ps) = Said p × Filled (q ∷ ps)

-- ---- the values that stand for themselves

-- the directions of a feature
abbrev pub axes : List Axis
axes = PlusX ∷ MinusX ∷ PlusY ∷ MinusY ∷ PlusZ ∷ MinusZ ∷ []

-- the directions of a measurement
abbrev pub directions : List (Option Axis)
directions = None ∷ map (λ d. Some d) axes

-- the settings of the probe
abbrev pub settings : List Setting
settings = Approach ∷ Retract ∷ Search ∷ Depth ∷ []

-- whether the nominal or the actual feature is meant
abbrev pub sources : List Source
sources = Nominal ∷ Actual ∷ []

-- the axes of a frame
abbrev pub frame_axes : List FrameAxis
frame_axes = frame_axis.X ∷ frame_axis.Y ∷ frame_axis.Z ∷ []

-- how far a frame is turned
abbrev pub quarter_turns : List Quarters
quarter_turns = quarter.Zero ∷ quarter.One ∷ quarter.Two ∷ quarter.Three ∷ []

-- the words of a feature
abbrev pub feature_words : List FeatureWord
feature_words = feature_word.X ∷ feature_word.Y ∷ feature_word.Z ∷ feature_word.I ∷ feature_word.J ∷ feature_word.K ∷ []

-- the kinds of a variable
abbrev pub kinds : List Kind
kinds = Int ∷ Real ∷ Truths ∷ []

-- the words of statements
abbrev pub all_words : List Word
all_words =
    words.EndFil ∷ words.Goto ∷ words.GoHome ∷ words.Assign ∷ words.If ∷ words.Else ∷ words.EndIf ∷ words.Do ∷ words.EndDo ∷ words.Label
    ∷ words.JumpTo ∷ words.Feat ∷ words.Meas ∷ words.PtMeas ∷ words.EndMes ∷ words.SnSet ∷ words.Trans ∷ words.Rotate ∷ words.Recall
    ∷ words.Obtain ∷ words.Output ∷ words.Text ∷ words.Select ∷ words.Case ∷ words.EndCas ∷ words.DftCas ∷ words.EndSel ∷ []

-- ---- forms

-- a function of the values of places to a statement
abbrev pub Making : List Place → Type 0
Making [] = Op
Making (p ∷ ps) = Said p → Making ps

-- what it makes of what stands in them
abbrev pub made : (ps : List Place) → Making ps → Filled ps → Op
made [] make f = make
made (p ∷ []) make f = make f
made (p ∷ q ∷ ps) make f = made (q ∷ ps) (make f.0) f.1

-- the form of a kind of statement: its places, and what is made of their values
pub data Form : Type 0 where
  form : (ps : List Place) → Making ps → Form

-- the form of each statement
abbrev pub form_of : Word → Form
form_of words.EndFil = form [] EndFil
form_of words.Goto = form (three Real ∷ []) (λ t. Plain (Goto t.0 t.1.0 t.1.1))
form_of words.GoHome = form [] (Plain GoHome)
form_of words.Assign = form (assigned ∷ []) (λ o. Plain (Assign o.0 o.1))
form_of words.If = form (items Truths ∷ target ∷ []) (λ e to. If e to)
form_of words.Else = form (target ∷ []) (λ to. Else to)
form_of words.EndIf = form [] EndIf
form_of words.Do = form (variable Int ∷ pair ∷ three Int ∷ target ∷ []) (λ v p t to. Do v p t.0 t.1.0 t.1.1 to)
form_of words.EndDo = form (variable Int ∷ pair ∷ target ∷ []) (λ v p to. EndDo v p to)
form_of words.Label = form [] Label
form_of words.JumpTo = form (target ∷ []) (λ to. JumpTo to)
form_of words.Feat = form (feature ∷ three Real ∷ axis ∷ []) (λ f t d. Plain (Feat f t.0 t.1.0 t.1.1 d))
form_of words.Meas = form (feature ∷ []) (λ f. Meas f)
form_of words.PtMeas = form (feature ∷ three Real ∷ direction ∷ []) (λ f t d. Plain (PtMeas f t.0 t.1.0 t.1.1 d))
form_of words.EndMes = form [] EndMes
form_of words.SnSet = form (setting ∷ items Real ∷ []) (λ which e. Plain (SnSet which e))
form_of words.Trans = form (frame ∷ three Real ∷ []) (λ f t. Plain (Trans f t.0 t.1.0 t.1.1))
form_of words.Rotate = form (frame ∷ turn ∷ quarters ∷ []) (λ f n q. Plain (Rotate f n q))
form_of words.Recall = form (frame ∷ []) (λ f. Plain (Recall f))
form_of words.Obtain = form (variable Real ∷ source ∷ feature ∷ part ∷ []) (λ v s f n. Plain (Obtain v s f n))
form_of words.Output = form (source ∷ feature ∷ []) (λ s f. Plain (Output s f))
form_of words.Text = form (text ∷ []) (λ bs. Plain (Text bs))
form_of words.Select = form (items Int ∷ branches ∷ target ∷ []) (λ e bs to. Select e bs to)
form_of words.Case = form [] Case
form_of words.EndCas = form (target ∷ []) (λ to. EndCas to)
form_of words.DftCas = form [] DftCas
form_of words.EndSel = form [] EndSel

-- the places of a form
abbrev pub places_in : Form → List Place
places_in (form ps make) = ps

-- what a form makes of their values
abbrev pub made_in : (f : Form) → Filled (places_in f) → Op
made_in (form ps make) x = made ps make x

-- the places of each statement
abbrev pub places : Word → List Place
places w = places_in (form_of w)

-- the statement of a word with these values
abbrev pub op_in : (w : Word) → Filled (places w) → Op
op_in w x = made_in (form_of w) x

-- a statement taken apart: its word, and the values in its places
pub data Parted : Type 0 where
  parted : (w : Word) → Filled (places w) → Parted

-- its word
abbrev pub word_in : Parted → Word
word_in (parted w f) = w

-- the statement that it is
abbrev pub put_together : Parted → Op
put_together (parted w f) = op_in w f

-- each statement, taken apart
abbrev pub taken_apart : Op → Parted
taken_apart EndFil = parted words.EndFil tt
taken_apart (Plain (Goto x y z)) = parted words.Goto (x, (y, z))
taken_apart (Plain GoHome) = parted words.GoHome tt
taken_apart (Plain (Assign v e)) = parted words.Assign (v, e)
taken_apart (If e to) = parted words.If (e, to)
taken_apart (Else to) = parted words.Else to
taken_apart EndIf = parted words.EndIf tt
taken_apart (Do v p x y z to) = parted words.Do (v, (p, ((x, (y, z)), to)))
taken_apart (EndDo v p to) = parted words.EndDo (v, (p, to))
taken_apart Label = parted words.Label tt
taken_apart (JumpTo to) = parted words.JumpTo to
taken_apart (Plain (Feat f x y z d)) = parted words.Feat (f, ((x, (y, z)), d))
taken_apart (Meas f) = parted words.Meas f
taken_apart (Plain (PtMeas f x y z d)) = parted words.PtMeas (f, ((x, (y, z)), d))
taken_apart EndMes = parted words.EndMes tt
taken_apart (Plain (SnSet which e)) = parted words.SnSet (which, e)
taken_apart (Plain (Trans f x y z)) = parted words.Trans (f, (x, (y, z)))
taken_apart (Plain (Rotate f n q)) = parted words.Rotate (f, (n, q))
taken_apart (Plain (Recall f)) = parted words.Recall f
taken_apart (Plain (Obtain v s f n)) = parted words.Obtain (v, (s, (f, n)))
taken_apart (Plain (Output s f)) = parted words.Output (s, f)
taken_apart (Plain (Text bs)) = parted words.Text bs
taken_apart (Select e bs to) = parted words.Select (e, (bs, to))
taken_apart Case = parted words.Case tt
taken_apart (EndCas to) = parted words.EndCas to
taken_apart DftCas = parted words.DftCas tt
taken_apart EndSel = parted words.EndSel tt

-- ---- folds over the places of a statement

-- what a function gives for each place with its value, one behind the other
abbrev pub over_places : {A : Type 0} → ((p : Place) → Said p → List A) → (ps : List Place) → Filled ps → List A
over_places f [] x = []
over_places f (p ∷ []) x = f p x
over_places f (p ∷ q ∷ ps) x = f p x.0 ++ over_places f (q ∷ ps) x.1

-- so for a statement taken apart
abbrev pub over_parted : {A : Type 0} → ((p : Place) → Said p → List A) → Parted → List A
over_parted f (parted w x) = over_places f (places w) x

-- so for a statement
abbrev pub over_operands : {A : Type 0} → ((p : Place) → Said p → List A) → Op → List A
over_operands f o = over_parted f (taken_apart o)

-- what holds of the values in places: in each place this, of the place and its value
abbrev pub InPlaces : ((p : Place) → Said p → Type 0) → (ps : List Place) → Filled ps → Type 0
InPlaces P [] x = Unit {0}
InPlaces P (p ∷ []) x = P p x
InPlaces P (p ∷ q ∷ ps) x = P p x.0 × InPlaces P (q ∷ ps) x.1

-- so for a statement taken apart
abbrev pub InParted : ((p : Place) → Said p → Type 0) → Parted → Type 0
InParted P (parted w x) = InPlaces P (places w) x

-- so for a statement
abbrev pub InOperands : ((p : Place) → Said p → Type 0) → Op → Type 0
InOperands P o = InParted P (taken_apart o)
