pub mod PassageLemmas
