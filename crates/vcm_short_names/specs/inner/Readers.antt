-- How far a text is read, as the code has it.
use Rattle.vcm_short_names.specs.declared.pieces.Reader.{Reader}
use Rattle.vcm_short_names.specs.Pieces.{Reading}

-- what the code keeps says this
abbrev pub reading : Reader → Reading
reading r = record { stand = r.stand; line = r.line; bytes = r.bytes; pieces = r.pieces }
