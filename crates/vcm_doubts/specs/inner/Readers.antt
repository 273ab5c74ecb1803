-- How far a text is read, as the code has it.
use Rattle.vcm_doubts.specs.declared.spellings.Reader.{Reader}
use Rattle.vcm_doubts.specs.Spellings.{Reading}

-- what the code keeps says this
abbrev pub reading : Reader → Reading
reading r = record { stand = r.stand; word = r.word; words = r.words }
