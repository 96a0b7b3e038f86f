use Rattle.rdb_base.proofs.PageLemmas.{page-front, page-fits, page-longest, page-some}
use Rattle.rdb_base.proofs.laws.page_of_rows.Goals as goal

pub returns-clause-front : goal.returns-clause-front
returns-clause-front c = page-front

pub returns-clause-fits : goal.returns-clause-fits
returns-clause-fits c = page-fits

pub returns-clause-longest : goal.returns-clause-longest
returns-clause-longest c = page-longest

pub returns-clause-some : goal.returns-clause-some
returns-clause-some c = page-some
