-- Bytes written into a region, and what is read of it afterwards.
use Rattle.std.proofs.Common.{inl, inr, ◌≡◌, ℕ, suc, ◌+◌, ◌-◌, ◌^◌, ◌<◌, ◌≤◌, List, [], ◌∷◌, ◌++◌, length, take, drop, set, replicate, refl, sym, ap, ◌∙◌, append_assoc, arith}
use Rattle.byteorder.specs.Endian.{little_bytes, little_number}
use Rattle.byteorder.specs.Numbers.{little_number-reads_back}
use Rattle.std.proofs.lemmas.Bool.{cases_lt}
use Rattle.std.proofs.lemmas.List.{take-append-drop, set_split, take_all, drop_all, append-nil, length-append, length-take-le, length-drop, length-replicate, drop-drop, take_at, drop-append-le, take-append-le, drop-take, take-take, drop-replicate, take-replicate, replicate-append-replicate}
use Rattle.std.proofs.Math.Seq.{drop-append-add, take-append-add}
use Rattle.raw_pool.specs.Bytes.{extended, part, put, word}

-- what lies behind the place of the bytes that were written
drop-put : (bytes new : List ℕ) (at i : ℕ) → at ≤ length bytes → drop (at + i) (put bytes at new) ≡ drop i (new ++ drop (at + length new) bytes)
unfolding put
drop-put bytes new at i h =
    let front : List ℕ = take at bytes in
    let rest : List ℕ = new ++ drop (at + length new) bytes in
    let n : length front ≡ at = length-take-le at bytes h in
    ap (drop (at + i)) (append_assoc front new (drop (at + length new) bytes))
    ∙ ap (λ (k : ℕ). drop (k + i) (front ++ rest)) (sym n)
    ∙ drop-append-add front rest i

pub put_same : (bytes new : List ℕ) (at : ℕ) → at ≤ length bytes → part (put bytes at new) at (length new) ≡ new
put_same bytes new at h =
    let z : at ≡ at + 0 = omega arith in
    let e : drop at (put bytes at new) ≡ new ++ drop (at + length new) bytes = ap (λ (k : ℕ). drop k (put bytes at new)) z ∙ drop-put bytes new at 0 h in
    ap (take (length new)) e ∙ take_at new (drop (at + length new) bytes) (length new) refl

pub put_before : (bytes new : List ℕ) (at off n : ℕ) → at ≤ length bytes → off + n ≤ at → part (put bytes at new) off n ≡ part bytes off n
unfolding put
put_before bytes new at off n h g =
    let front : List ℕ = take at bytes in
    let rest : List ℕ = new ++ drop (at + length new) bytes in
    let m : length front ≡ at = length-take-le at bytes h in
    let k : ℕ = at - off in
    let ke : off + k ≡ at = omega arith in
    let s : drop off front ≡ take k (drop off bytes) = ap (λ (j : ℕ). drop off (take j bytes)) (sym ke) ∙ drop-take off k bytes in
    ap (λ (xs : List ℕ). take n (drop off xs)) (append_assoc front new (drop (at + length new) bytes))
    ∙ ap (take n) (drop-append-le off front rest (omega arith))
    ∙ take-append-le n (drop off front) rest (omega (arith, length-drop off front))
    ∙ ap (take n) s
    ∙ take-take n k (drop off bytes) (omega arith)

pub put_behind : (bytes new : List ℕ) (at off n : ℕ) → at ≤ length bytes → at + length new ≤ off → part (put bytes at new) off n ≡ part bytes off n
put_behind bytes new at off n h g =
    let k : ℕ = off - (at + length new) in
    let ke : at + (length new + k) ≡ off = omega arith in
    let end : at + length new + k ≡ off = omega arith in
    let rest : List ℕ = drop (at + length new) bytes in
    ap (take n)
    (ap (λ (j : ℕ). drop j (put bytes at new)) (sym ke)
    ∙ drop-put bytes new at (length new + k) h
    ∙ drop-append-add new rest k
    ∙ drop-drop k (at + length new) bytes
    ∙ ap (λ (j : ℕ). drop j bytes) end)

pub put_inside : (bytes : List ℕ) (at m off n : ℕ) → at ≤ length bytes → at ≤ off → off + n ≤ at + m → part (put bytes at (replicate m 0)) off n ≡ replicate n 0
put_inside bytes at m off n h low high =
    let new : List ℕ = replicate m 0 in
    let l : length new ≡ m = length-replicate m 0 in
    let i : ℕ = off - at in
    let ie : at + i ≡ off = omega arith in
    let rest : List ℕ = drop (at + length new) bytes in
    ap (take n)
    (ap (λ (j : ℕ). drop j (put bytes at new)) (sym ie)
    ∙ drop-put bytes new at i h
    ∙ drop-append-le i new rest (omega arith))
    ∙ take-append-le n (drop i new) rest (omega (arith, length-drop i new))
    ∙ ap (take n) (drop-replicate i m 0)
    ∙ take-replicate n (m - i) 0 (omega arith)

pub length-put : (bytes new : List ℕ) (at : ℕ) → at ≤ length bytes → length (put bytes at new) ≡ (at + length new) + (length bytes - (at + length new))
unfolding put
length-put bytes new at h =
    omega (arith, length-append (take at bytes ++ new) (drop (at + length new) bytes), length-append (take at bytes) new, length-take-le at bytes h, length-drop (at + length new) bytes)

pub put-is : (bytes : List ℕ) (at : ℕ) (new : List ℕ) → put bytes at new ≡ take at bytes ++ new ++ drop (at + length new) bytes
unfolding put
put-is bytes at new = refl

-- one byte that is written over another, or behind all
pub put-over : (bytes : List ℕ) (at byte : ℕ) → at < length bytes → set bytes at byte ≡ put bytes at (byte ∷ [])
unfolding put
put-over bytes at byte h =
    set_split bytes at byte h
    ∙ ap (λ (k : ℕ). take at bytes ++ byte ∷ drop k bytes) (let one : suc at ≡ at + 1 = omega arith in one)
    ∙ sym (append_assoc (take at bytes) (byte ∷ []) (drop (at + 1) bytes))

-- ---- words

pub word-same : (old new : List ℕ) (at : ℕ) → part new at 8 ≡ part old at 8 → word new at ≡ word old at
unfolding word
word-same old new at e = ap (little_number 8) e

pub word-put : (bytes : List ℕ) (at n : ℕ) → at ≤ length bytes → n < 2 ^ 64 → word (put bytes at (little_bytes 8 n)) at ≡ n
unfolding word
word-put bytes at n h fits =
    let e : part (put bytes at (little_bytes 8 n)) at 8 ≡ little_bytes 8 n = put_same bytes (little_bytes 8 n) at h in
    ap (little_number 8) (e ∙ sym (append-nil (little_bytes 8 n))) ∙ little_number-reads_back 8 n [] (omega arith)

-- ---- more bytes written behind those before

pub put-nothing : (bytes : List ℕ) (at : ℕ) → at ≤ length bytes → put bytes at [] ≡ bytes
unfolding put
put-nothing bytes at h =
    let z : at + 0 ≡ at = omega arith in
    ap (λ (xs : List ℕ). xs ++ drop (at + 0) bytes) (append-nil (take at bytes)) ∙ ap (λ (k : ℕ). take at bytes ++ drop k bytes) z ∙ take-append-drop at bytes

pub put-more : (bytes new more : List ℕ) (at next : ℕ) → at ≤ length bytes → at + length new ≡ next → put (put bytes at new) next more ≡ put bytes at (new ++ more)
put-more bytes new more at next h e =
    let front : List ℕ = take at bytes ++ new in
    let rest : List ℕ = drop (at + length new) bytes in
    let n : length front ≡ next = length-append (take at bytes) new ∙ ap (λ (k : ℕ). k + length new) (length-take-le at bytes h) ∙ e in
    let sum : next + length more ≡ length front + length more = ap (λ (k : ℕ). k + length more) (sym n) in
    let whole : at + length new + length more ≡ at + length (new ++ more) = omega (arith, length-append new more) in
    put-is (put bytes at new) next more
    ∙ ap (λ (xs : List ℕ). take next xs ++ more ++ drop (next + length more) xs) (put-is bytes at new)
    ∙ ap (λ (xs : List ℕ). xs ++ more ++ drop (next + length more) (front ++ rest)) (take_at front rest next n)
    ∙ ap (λ (k : ℕ). front ++ more ++ drop k (front ++ rest)) sum
    ∙ ap (λ (xs : List ℕ). front ++ more ++ xs) (drop-append-add front rest (length more) ∙ drop-drop (length more) (at + length new) bytes)
    ∙ ap (λ (k : ℕ). front ++ more ++ drop k bytes) whole
    ∙ ap (λ (xs : List ℕ). xs ++ drop (at + length (new ++ more)) bytes) (append_assoc (take at bytes) new more)
    ∙ sym (put-is bytes at (new ++ more))

-- ---- bytes written over those that are set, and behind them

-- a row in the middle of which others are written, as many as were there
pub mid-put : (at k : ℕ) (all new : List ℕ) → k ≡ length new → take at all ++ (new ++ drop k (drop at all)) ≡ put all at new
mid-put at k all new q =
    let back : List ℕ = drop k (drop at all) in
    let end : at + k ≡ at + length new = omega (arith, q) in
    sym (append_assoc (take at all) new back)
    ∙ ap (λ (xs : List ℕ). take at all ++ new ++ xs) (drop-drop k at all ∙ ap (λ (n : ℕ). drop n all) end)
    ∙ sym (put-is all at new)

-- the same of a row behind a pointer, through a slice
pub lent-put : (len at k : ℕ) (all rest new : List ℕ) → len ≡ length all → at + length new ≤ length all → k ≡ length new →
    take len (take at all ++ (new ++ drop k (drop at all)) ++ drop (length (take at all ++ (new ++ drop k (drop at all)))) rest) ≡ put all at new
lent-put len at k all rest new e h q =
    let back : List ℕ = drop k (drop at all) in
    let mid : List ℕ = take at all ++ (new ++ back) in
    let long : length mid ≡ len = omega (arith, length-append (take at all) (new ++ back), length-append new back, length-take-le at all, length-drop at all, length-drop k (drop at all), e, q) in
    take_at mid (drop (length mid) rest) len long ∙ mid-put at k all new q

-- ---- a row that is set to 0 from its front on

-- some more zeros behind those at the front
pub zeros-more : (bytes : List ℕ) (n m : ℕ) → n ≤ length bytes → put (put bytes 0 (replicate n 0)) n (replicate m 0) ≡ put bytes 0 (replicate (n + m) 0)
zeros-more bytes n m h =
    put-more bytes (replicate n 0) (replicate m 0) 0 n (omega arith) (omega (arith, length-replicate {A = ℕ} n 0))
    ∙ ap (put bytes 0) (replicate-append-replicate n m 0)

-- as many zeros as there are bytes
pub zeros-all : (bytes : List ℕ) (n : ℕ) → n ≡ length bytes → put bytes 0 (replicate n 0) ≡ replicate n 0
zeros-all bytes n e =
    let zeros : List ℕ = replicate n 0 in
    put-is bytes 0 zeros
    ∙ ap (λ (xs : List ℕ). xs ++ zeros ++ drop (0 + length zeros) bytes) (none bytes)
    ∙ ap (λ (xs : List ℕ). zeros ++ xs) (drop_all (0 + length zeros) bytes (omega (arith, length-replicate {A = ℕ} n 0, e)))
    ∙ append-nil zeros
  where
    none : (xs : List ℕ) → take 0 xs ≡ []
    none [] = refl
    none (x ∷ xs) = refl

pub length-extended : (bytes : List ℕ) (end : ℕ) → length (extended bytes end) ≡ length bytes + (end - length bytes)
length-extended bytes end = length-append bytes (replicate (end - length bytes) 0) ∙ ap (λ (n : ℕ). length bytes + n) (length-replicate {A = ℕ} (end - length bytes) 0)

pub extended-none : (bytes : List ℕ) (end : ℕ) → end ≤ length bytes → extended bytes end ≡ bytes
extended-none bytes end h = ap (λ (k : ℕ). bytes ++ replicate k 0) (let none : end - length bytes ≡ 0 = omega arith in none) ∙ append-nil bytes

-- bytes that are set to 0 first and written over then
pub put-extended : (bytes new : List ℕ) (at end : ℕ) → at ≤ length bytes → end ≡ at + length new → put (extended bytes end) at new ≡ put bytes at new
put-extended bytes new at end h e =
    let zeros : List ℕ = replicate (end - length bytes) 0 in
    let n : length (bytes ++ zeros) ≡ length bytes + (end - length bytes) = length-extended bytes end in
    let back : drop (at + length new) (bytes ++ zeros) ≡ drop (at + length new) bytes =
    elim (cases_lt (length bytes) (at + length new)) [
      | inl l ↦ drop_all (at + length new) (bytes ++ zeros) (omega (arith, n, e)) ∙ sym (drop_all (at + length new) bytes (omega arith))
      | inr g ↦ ap (λ (k : ℕ). drop (at + length new) (bytes ++ replicate k 0)) (let none : end - length bytes ≡ 0 = omega arith in none) ∙ ap (drop (at + length new)) (append-nil bytes)
    ] in
    put-is (bytes ++ zeros) at new
    ∙ ap (λ (xs : List ℕ). xs ++ new ++ drop (at + length new) (bytes ++ zeros)) (take-append-le at bytes zeros h)
    ∙ ap (λ (xs : List ℕ). take at bytes ++ new ++ xs) back
    ∙ sym (put-is bytes at new)

-- two numbers, where the bytes are set to 0 first
pub words-extended : (bytes one two : List ℕ) (at next end : ℕ) → at ≤ length bytes → next ≡ at + length one → end ≡ next + length two → put (put (extended bytes end) at one) next two ≡ put (put bytes at one) next two
words-extended bytes one two at next end h e f =
    put-more (extended bytes end) one two at next (omega (arith, length-extended bytes end, h)) (sym e)
    ∙ put-extended bytes (one ++ two) at end h (omega (arith, length-append one two, e, f))
    ∙ sym (put-more bytes one two at next h (sym e))

pub put-behind : (bytes over behind : List ℕ) (at : ℕ) → length bytes ≤ at + length over → put bytes at over ++ behind ≡ put bytes at (over ++ behind)
put-behind bytes over behind at h =
    let none : drop (at + length over) bytes ≡ [] = drop_all (at + length over) bytes h in
    let none-too : drop (at + length (over ++ behind)) bytes ≡ [] = drop_all (at + length (over ++ behind)) bytes (omega (arith, length-append over behind)) in
    ap (λ (xs : List ℕ). xs ++ behind) (put-is bytes at over ∙ ap (λ (xs : List ℕ). take at bytes ++ over ++ xs) none ∙ append-nil (take at bytes ++ over))
    ∙ append_assoc (take at bytes) over behind
    ∙ sym (append-nil (take at bytes ++ (over ++ behind)))
    ∙ ap (λ (xs : List ℕ). take at bytes ++ (over ++ behind) ++ xs) (sym none-too)
    ∙ sym (put-is bytes at (over ++ behind))

-- bytes that are written over as many at the same place
put-again : (bytes old new : List ℕ) (at : ℕ) → at ≤ length bytes → length old ≡ length new → put (put bytes at old) at new ≡ put bytes at new
put-again bytes old new at h e =
    let rest : List ℕ = drop (at + length old) bytes in
    let front : take at (put bytes at old) ≡ take at bytes =
    ap (take at) (put-is bytes at old ∙ append_assoc (take at bytes) old rest) ∙ take_at (take at bytes) (old ++ rest) at (length-take-le at bytes h) in
    let back : drop (at + length new) (put bytes at old) ≡ drop (at + length new) bytes =
    drop-put bytes old at (length new) h ∙ ap (λ (k : ℕ). drop k (old ++ rest)) (sym e) ∙ drop_at old rest ∙ ap (λ (k : ℕ). drop (at + k) bytes) e in
    put-is (put bytes at old) at new
    ∙ ap (λ (xs : List ℕ). xs ++ new ++ drop (at + length new) (put bytes at old)) front
    ∙ ap (λ (xs : List ℕ). take at bytes ++ new ++ xs) back
    ∙ sym (put-is bytes at new)
  where
    drop_at : (xs ys : List ℕ) → drop (length xs) (xs ++ ys) ≡ ys
    drop_at [] ys = refl
    drop_at (x ∷ xs) ys = drop_at xs ys

-- two numbers behind bytes that are set to 0, where not all of these were set
pub words-behind : (bytes one two : List ℕ) (at count over more next end : ℕ) → at ≤ length bytes → at + over ≡ length bytes → over + more ≡ count + 16 → length one ≡ 8 → length two ≡ 8 → next ≡ at + count → end ≡ next + 8
    → put (put (put bytes at (replicate over 0) ++ replicate more 0) next one) end two ≡ put (put (put bytes at (replicate count 0)) next one) end two
words-behind bytes one two at count over more next end h e m l1 l2 n f =
    let zeros : List ℕ = put bytes at (replicate count 0) in
    let long : next ≤ length zeros = omega (arith, length-put bytes (replicate count 0) at h, length-replicate {A = ℕ} count 0, n) in
    let all : put bytes at (replicate over 0) ++ replicate more 0 ≡ put zeros next (replicate 16 0) =
    put-behind bytes (replicate over 0) (replicate more 0) at (omega (arith, e, length-replicate {A = ℕ} over 0))
    ∙ ap (put bytes at) (replicate-append-replicate over more 0 ∙ ap (λ (k : ℕ). replicate k 0) m ∙ sym (replicate-append-replicate count 16 0))
    ∙ sym (put-more bytes (replicate count 0) (replicate 16 0) at next h (omega (arith, n, length-replicate {A = ℕ} count 0))) in
    ap (λ (xs : List ℕ). put (put xs next one) end two) all
    ∙ put-more (put zeros next (replicate 16 0)) one two next end (omega (arith, long, length-put zeros (replicate 16 0) next long)) (omega (arith, l1, f))
    ∙ put-again zeros (replicate 16 0) (one ++ two) next long (omega (arith, length-append one two, l1, l2))
    ∙ sym (put-more zeros one two next end long (omega (arith, l1, f)))

-- a write into the middle one of three lists
pub put-deep : (front mid rest new : List ℕ) (off at : ℕ) → length front ≡ off → at + length new ≤ length mid → put (front ++ (mid ++ rest)) (off + at) new ≡ front ++ (put mid at new ++ rest)
put-deep front mid rest new off at e h =
    let t1 : take (off + at) (front ++ (mid ++ rest)) ≡ front ++ take at mid =
    ap (λ (k : ℕ). take (k + at) (front ++ (mid ++ rest))) (sym e) ∙ take-append-add front (mid ++ rest) at ∙ ap (λ (xs : List ℕ). front ++ xs) (take-append-le at mid rest (omega arith)) in
    let k : off + at + length new ≡ length front + (at + length new) = omega arith in
    let t2 : drop (off + at + length new) (front ++ (mid ++ rest)) ≡ drop (at + length new) mid ++ rest =
    ap (λ (j : ℕ). drop j (front ++ (mid ++ rest))) k ∙ drop-append-add front (mid ++ rest) (at + length new) ∙ drop-append-le (at + length new) mid rest h in
    let nested : front ++ take at mid ++ new ++ (drop (at + length new) mid ++ rest) ≡ front ++ (take at mid ++ new ++ drop (at + length new) mid ++ rest) = simp append_assoc in
    put-is (front ++ (mid ++ rest)) (off + at) new
    ∙ ap (λ (xs : List ℕ). xs ++ new ++ drop (off + at + length new) (front ++ (mid ++ rest))) t1
    ∙ ap (λ (xs : List ℕ). front ++ take at mid ++ new ++ xs) t2
    ∙ nested ∙ ap (λ (xs : List ℕ). front ++ (xs ++ rest)) (sym (put-is mid at new))
