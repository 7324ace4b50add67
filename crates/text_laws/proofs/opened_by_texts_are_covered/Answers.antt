use Rattle.text_laws.proofs.Texts.{opened_by_texts_are_covered}
use Rattle.text_laws.proofs.opened_by_texts_are_covered.Goals as goal

pub returns : goal.returns
returns c = opened_by_texts_are_covered
