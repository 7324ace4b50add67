-- What is proved of written trees holds of the trees that texts spell.
use Rattle.statement_laws.proofs.Opened.{opened_calls_lie_within, opened_instances_are_covered}
use Rattle.statement_laws.proofs.Watching.{programs_keep_privileges}
use Rattle.written_trees.proofs.Texts.{read_trees_are_written}
use Rattle.text_laws.specs.Laws.{CallsOfTextsLieWithin, OpenedByTextsAreCovered, TextsKeepPrivileges}

pub texts_keep_privileges : TextsKeepPrivileges
texts_keep_privileges text tree inputs turns reads none counted = programs_keep_privileges tree inputs turns none (read_trees_are_written text tree reads) counted

pub opened_by_texts_are_covered : OpenedByTextsAreCovered
opened_by_texts_are_covered text tree inputs turns reads none counted i opened =
    opened_instances_are_covered tree inputs turns none (read_trees_are_written text tree reads) counted i opened

pub calls_of_texts_lie_within : CallsOfTextsLieWithin
calls_of_texts_lie_within text tree inputs turns reads none counted i c opened makes =
    opened_calls_lie_within tree inputs turns none (read_trees_are_written text tree reads) counted i c opened makes
