-- What a statement says: its word, and whether it is counted.
use Rattle.std.specs.Prelude.{ℕ, Bool, true, false, codes, List}
use Rattle.vcm_forms.specs.declared.statement.Notice.{Notice}
use Rattle.vcm_forms.specs.declared.statement.Notice.TheVariants.{Mode, Fedrat, Aclrat, Finpos, Prcomp, Decpl, Filnam, Disply, Wkplan, Snslct, Snsdef, Vform}
use Rattle.vcm_forms.specs.declared.statement.Target.{Target}
use Rattle.vcm_forms.specs.declared.statement.Form.{Form}
use Rattle.vcm_forms.specs.declared.statement.Form.TheVariants.{Opening, Measures, Ignored, Declaration, Macro, MacroEnd, Call}

-- the word of a statement without effect
abbrev pub notice_word : Notice → List ℕ
notice_word Mode = codes "MODE"
notice_word Fedrat = codes "FEDRAT"
notice_word Aclrat = codes "ACLRAT"
notice_word Finpos = codes "FINPOS"
notice_word Prcomp = codes "PRCOMP"
notice_word Decpl = codes "DECPL"
notice_word Filnam = codes "FILNAM"
notice_word Disply = codes "DISPLY"
notice_word Wkplan = codes "WKPLAN"
notice_word Snslct = codes "SNSLCT"
notice_word Snsdef = codes "SNSDEF"
notice_word Vform = codes "VFORM"

-- the variable of this name, in no expansion of a macro as far as it is known here
abbrev pub as_read : List ℕ → Target
as_read name = record { name = name; expansion = 0 }

-- whether a statement is a step of the machine, and so has a number
abbrev pub is_counted : Form → Bool
is_counted Opening = false
is_counted Measures = false
is_counted (Ignored n) = false
is_counted (Declaration kind names) = false
is_counted (Macro name ps) = false
is_counted MacroEnd = false
is_counted (Call name args) = false
is_counted _ = true
