use Rattle.std.proofs.Common.{rules}
use Rattle.table_switch.proofs.RisingLemmas.{keeps-newcomer, keeps-fork, keeps-join}
use Rattle.table_switch.proofs.trie_writer.TrieWriter.reader.Goals as goal

pub reader-requires : goal.reader-requires
reader-requires g c copy views kept = keeps-newcomer copy views kept

pub tell-requires : goal.tell-requires
tell-requires g c copy views kept at = keeps-fork _ _ copy views kept at

pub learn-requires : goal.learn-requires
learn-requires g c = record { own = search rules; rule = λ copy views kept at apart there. keeps-join _ _ _ copy views kept apart there }
