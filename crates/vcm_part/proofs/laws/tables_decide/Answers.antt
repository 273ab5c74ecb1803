use Rattle.std.proofs.Common.{refl}
use Rattle.std.specs.Str.{is_utf8}
use Rattle.vcm_part.specs.PartFile.{part_of}
use Rattle.vcm_part.proofs.Bytes.{text_is, text_is_not, refused_either}
use Rattle.vcm_part.proofs.laws.tables_decide.Goals as goal

pub returns-clause-bytes : goal.returns-clause-bytes
unfolding part_of
returns-clause-bytes c = λ bytes h. rw (text_is_not bytes h) refl

pub returns-clause-texts : goal.returns-clause-texts
unfolding part_of
returns-clause-texts c = λ bytes h. rw h (refused_either (is_utf8 bytes))

pub returns-clause-tables : goal.returns-clause-tables
unfolding part_of
returns-clause-tables c = λ bytes t h e. rw (text_is bytes h, e) refl
