-- Words apart by what they stand for.
use Rattle.std.specs.Prelude.{Bool, true, false}
use Rattle.vcm_code.specs.declared.word.Word.{Word}
use Rattle.vcm_code.specs.declared.word.Word.TheVariants.{EndFil, If, Else, EndIf, Do, EndDo, Label, JumpTo, Meas, EndMes, Select, Case, EndCas, DftCas, EndSel}

-- whether it is the word of a simple statement
abbrev pub is_simple : Word → Bool
is_simple EndFil = false
is_simple If = false
is_simple Else = false
is_simple EndIf = false
is_simple Do = false
is_simple EndDo = false
is_simple Label = false
is_simple JumpTo = false
is_simple Meas = false
is_simple EndMes = false
is_simple Select = false
is_simple Case = false
is_simple EndCas = false
is_simple DftCas = false
is_simple EndSel = false
is_simple _ = true
