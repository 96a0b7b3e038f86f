use Rattle.std.proofs.Common.{arith}
use Rattle.meta_trie.proofs.BitLemmas.{has_bit-set}
use Rattle.meta_trie.proofs.next_bytes.NextBytes.insert.Goals as goal

pub returns : goal.returns
returns c = λ b. has_bit-set c.args.self.now.words c.args.byte b (omega arith) (omega arith)
