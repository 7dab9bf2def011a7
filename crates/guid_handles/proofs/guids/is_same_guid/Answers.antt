use Rattle.guid_handles.proofs.GuidWords.{words_then, words_else}
use Rattle.guid_handles.proofs.guids.is_same_guid.Goals as goal

pub returns-then-first_word : goal.returns-then-first_word
returns-then-first_word c =
    let f = c.first_word.ensures in
    let s = c.first_word-2.ensures in
    let a = c.as_bytes-a.ensures in
    let b = c.as_bytes-b.ensures in
    words_then c.args.a.now c.args.b.now _ _ _ _ (rw a at f.long) (rw b at s.long) (λ i. rw a at f.bytes i) (λ i. rw b at s.bytes i) (rw a at f.number) (rw b at s.number) (rw a at c.last_word.ensures) (rw b at c.last_word-then-first_word.ensures) c.if-first_word.true

pub returns-else-first_word : goal.returns-else-first_word
returns-else-first_word c =
    words_else c.args.a.now c.args.b.now _ _ (rw c.as_bytes-a.ensures at c.first_word.ensures.number) (rw c.as_bytes-b.ensures at c.first_word-2.ensures.number) c.if-first_word.false
