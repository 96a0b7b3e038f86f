use Rattle.history_core.proofs.PassLemmas.{session_from_pass, pass_adds_its_updates, pass_knows_synced, pass_counts_failures, pass_alone_is_plain}
use Rattle.history_core.proofs.laws.pass_gives_session.Goals as goal

pub returns-clause-session : goal.returns-clause-session
returns-clause-session c = session_from_pass

pub returns-clause-updates : goal.returns-clause-updates
returns-clause-updates c = pass_adds_its_updates

pub returns-clause-synced : goal.returns-clause-synced
returns-clause-synced c = pass_knows_synced

pub returns-clause-failures : goal.returns-clause-failures
returns-clause-failures c = pass_counts_failures

pub returns-clause-alone : goal.returns-clause-alone
returns-clause-alone c = pass_alone_is_plain
