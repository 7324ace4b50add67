use Rattle.text_laws.proofs.Texts.{texts_keep_privileges}
use Rattle.text_laws.proofs.texts_keep_privileges.Goals as goal

pub returns : goal.returns
returns c = texts_keep_privileges
