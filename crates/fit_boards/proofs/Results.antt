-- What those above take of the laws of journals: what a board comes to.
pub use Rattle.journal_results.proofs.Journals.{results_are_ordered}
