use Rattle.table_file.proofs.PackLemmas.{footer_added}
use Rattle.table_file.proofs.writing.add_footer.Goals as goal

pub returns : goal.returns
returns c = footer_added _ _ _ _ _ _ _ _ _ _ _ c.in_ok-add_u32.ensures c.in_ok-add_u16.ensures c.in_ok-add_u16-2.ensures c.in_ok-add_u32-2.ensures c.in_ok-add_u32-3.ensures
