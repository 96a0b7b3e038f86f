use Rattle.session_core.proofs.SessionLemmas.{answers_give_session, answers_add_updates, answers_know_synced, answers_tell_failures, answers_alone_are_plain, answers_alone_are_session}
use Rattle.session_core.proofs.laws.answers_give_session.Goals as goal

pub returns-clause-session : goal.returns-clause-session
returns-clause-session c = answers_give_session

pub returns-clause-updates : goal.returns-clause-updates
returns-clause-updates c = answers_add_updates

pub returns-clause-synced : goal.returns-clause-synced
returns-clause-synced c = answers_know_synced

pub returns-clause-failures : goal.returns-clause-failures
returns-clause-failures c = answers_tell_failures

pub returns-clause-alone : goal.returns-clause-alone
returns-clause-alone c = answers_alone_are_plain

pub returns-clause-begun : goal.returns-clause-begun
returns-clause-begun c = answers_alone_are_session
