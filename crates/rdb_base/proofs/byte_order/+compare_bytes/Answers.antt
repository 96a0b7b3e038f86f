use Rattle.std.proofs.Common.{◌∙◌, sym, arith}
use Rattle.std.specs.declared.cmp.Ordering.TheVariants.{Less, Equal, Greater}
use Rattle.rdb_base.specs.Order.{key_cmp}
use Rattle.rdb_base.proofs.WordOrder.{words_then}
use Rattle.rdb_base.proofs.byte_order.+compare_bytes.Goals as goal

pub returns-then-my_word-their_word : goal.returns-then-my_word-their_word
returns-then-my_word-their_word t c =
    c.compare_bytes.ensures
    ∙ (λ i. key_cmp (c.split_at.ensures.back i) (c.split_at-then-my_word-their_word.ensures.back i))
    ∙ sym (words_then _ _ _ _ Equal c.if-mine-lt-WORD.false c.if-theirs-lt-WORD.false c.word_of-my_word.ensures.small c.word_of-their_word.ensures.small c.word_of-my_word.ensures.value c.word_of-their_word.ensures.value c.if-my_word-their_word.true)

pub returns-then-my_word-their_word-2 : goal.returns-then-my_word-their_word-2
returns-then-my_word-their_word-2 t c = sym (words_then _ _ _ _ Less c.if-mine-lt-WORD.false c.if-theirs-lt-WORD.false c.word_of-my_word.ensures.small c.word_of-their_word.ensures.small c.word_of-my_word.ensures.value c.word_of-their_word.ensures.value c.if-my_word-their_word-2.true)

pub returns-else-my_word-their_word-2 : goal.returns-else-my_word-their_word-2
returns-else-my_word-their_word-2 t c = sym (words_then _ _ _ _ Greater c.if-mine-lt-WORD.false c.if-theirs-lt-WORD.false c.word_of-my_word.ensures.small c.word_of-their_word.ensures.small c.word_of-my_word.ensures.value c.word_of-their_word.ensures.value (omega (arith, c.if-my_word-their_word.false, c.if-my_word-their_word-2.false)))
