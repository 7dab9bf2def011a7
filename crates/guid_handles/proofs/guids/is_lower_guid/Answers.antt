use Rattle.guid_handles.proofs.GuidNumbers.{high_words, low_words}
use Rattle.guid_handles.proofs.guids.is_lower_guid.Goals as goal

pub returns-then-first-second : goal.returns-then-first-second
returns-then-first-second c =
    let f = c.high_word-first.ensures in
    let s = c.high_word-second.ensures in
    let a = c.as_bytes-a.ensures in
    let b = c.as_bytes-b.ensures in
    high_words c.args.a.now c.args.b.now _ _ (rw a at f.long) (rw b at s.long) (λ i. rw a at f.bytes i) (λ i. rw b at s.bytes i) (rw a at f.number) (rw b at s.number) c.if-first-second.true

pub returns : goal.returns
returns c =
    let f = c.high_word-first.ensures in
    let s = c.high_word-second.ensures in
    let a = c.as_bytes-a.ensures in
    let b = c.as_bytes-b.ensures in
    low_words c.args.a.now c.args.b.now _ _ _ _ (rw a at f.long) (rw b at s.long) (λ i. rw a at f.bytes i) (λ i. rw b at s.bytes i) (rw a at f.number) (rw b at s.number) (rw a at c.low_word.ensures) (rw b at c.low_word-2.ensures) c.if-first-second.false
