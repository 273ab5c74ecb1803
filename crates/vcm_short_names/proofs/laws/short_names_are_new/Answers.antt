use Rattle.vcm_short_names.proofs.Apart.{names_are_apart, names_are_no_words}
use Rattle.vcm_short_names.proofs.Spelled.{names_are_names}
use Rattle.vcm_short_names.proofs.laws.short_names_are_new.Goals as goal

pub returns : goal.returns
returns c = record { apart = names_are_apart; words = names_are_no_words; names = names_are_names }
