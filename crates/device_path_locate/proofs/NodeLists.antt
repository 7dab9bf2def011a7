-- The nodes that bytes are read as.
use Rattle.std.proofs.Common.{◌≡◌, ℕ, zero, suc, ◌+◌, ◌-◌, ◌*◌, ◌<◌, ◌≤◌, ◌++◌, ◌⊎◌, nat_eq, Bool, true, false, cond, List, [], ◌∷◌, length, take, drop, Option, Some, None, option_map, refl, sym, ap, ◌∙◌, arith, lt-ltb, le-ltb, append_assoc, inl, inr, eqb-true}
use Rattle.std.proofs.lemmas.List.{drop_all, length-take-le, take-append-drop}
use Rattle.std.proofs.lemmas.Bool.{and_parts, cases_Bool, cases_lt}
use Rattle.std.proofs.lemmas.Slice.Eq.{bytes_eq-Decides}
use Rattle.std.specs.List.{concat}
use Rattle.byteorder.specs.Endian.{little_number}
use Rattle.device_path_locate.specs.DevicePaths.{BeginsWith, Node, end_of_path, is_inner, nodes_behind, nodes_from, path_in, same_bytes, returned_length}
use Rattle.device_path_locate.specs.Reading.{IsFrontNode}

-- bytes that are passed over do not matter
pub passed_over : (k : ℕ) (bytes : List ℕ) → nodes_behind k bytes ≡ path_in (drop k bytes)
passed_over zero bytes = refl
passed_over (suc k) [] = refl
passed_over (suc k) (b ∷ bytes) = passed_over k bytes

pub run_out : (k : ℕ) (bytes : List ℕ) → length bytes ≤ k → nodes_behind k bytes ≡ None
run_out k bytes h = passed_over k bytes ∙ ap path_in (drop_all k bytes h)

-- ---- the node at the front

-- the front of some bytes behind the first four
take_behind : (n m : ℕ) (t s l h : ℕ) (rest : List ℕ) → n ≡ m + 4 → take n (t ∷ s ∷ l ∷ h ∷ rest) ≡ t ∷ s ∷ l ∷ h ∷ take m rest
take_behind n m t s l h rest e = let z : n ≡ suc (suc (suc (suc m))) = omega (arith, e) in ap (λ (k : ℕ). take k (t ∷ s ∷ l ∷ h ∷ rest)) z

drop_behind : (n m : ℕ) (t s l h : ℕ) (rest : List ℕ) → n ≡ m + 4 → drop n (t ∷ s ∷ l ∷ h ∷ rest) ≡ drop m rest
drop_behind n m t s l h rest e = let z : n ≡ suc (suc (suc (suc m))) = omega (arith, e) in ap (λ (k : ℕ). drop k (t ∷ s ∷ l ∷ h ∷ rest)) z

-- the nodes behind a node, where there are none
same_either : {X : Type 0} (b : Bool) (x : X) → cond b x x ≡ x
same_either true x = refl
same_either false x = refl

none_behind : (n : Node) → same_bytes n end_of_path ≡ false → nodes_from n None ≡ None
none_behind n e = rw e (same_either (is_inner n) None)

-- the end of a path has a length of 4 bytes
end_returned : (t s l h : ℕ) (rest : List ℕ) → same_bytes (t ∷ s ∷ l ∷ h ∷ rest) end_of_path ≡ true → l + 256 * h ≡ 4
end_returned t s l h rest e =
    let p = and_parts (nat_eq t 0x7f) (same_bytes (s ∷ l ∷ h ∷ rest) (0xff ∷ 4 ∷ 0 ∷ [])) e in
    let q = and_parts (nat_eq s 0xff) (same_bytes (l ∷ h ∷ rest) (4 ∷ 0 ∷ [])) p.1 in
    let r = and_parts (nat_eq l 4) (same_bytes (h ∷ rest) (0 ∷ [])) q.1 in
    let u = and_parts (nat_eq h 0) (same_bytes rest []) r.1 in
    omega (arith, eqb-true l 4 r.0, eqb-true h 0 u.0)

pub path_here : (t s l h n : ℕ) (rest : List ℕ) → n ≡ l + 256 * h → 4 ≤ n → path_in (t ∷ s ∷ l ∷ h ∷ rest) ≡ nodes_from (take n (t ∷ s ∷ l ∷ h ∷ rest)) (path_in (drop n (t ∷ s ∷ l ∷ h ∷ rest)))
path_here t s l h n rest e m =
    let z : n ≡ n - 4 + 4 = omega arith in
    rw (← e, le-ltb n 4 m, take_behind n (n - 4) t s l h rest z, drop_behind n (n - 4) t s l h rest z, passed_over (n - 4) rest) refl

pub front_node : (xs : List ℕ) (n : ℕ) → 4 ≤ length xs → n ≡ little_number 2 (drop 2 xs) → 4 ≤ n → n ≤ length xs → IsFrontNode xs (Some (take n xs))
front_node [] n h e m l = absurd (omega arith)
front_node (t ∷ []) n h e m l = absurd (omega arith)
front_node (t ∷ s ∷ []) n h e m l = absurd (omega arith)
front_node (t ∷ s ∷ a ∷ []) n h e m l = absurd (omega arith)
front_node (t ∷ s ∷ a ∷ b ∷ rest) n h e m l =
    let xs : List ℕ = t ∷ s ∷ a ∷ b ∷ rest in
    let z : length (take n xs) ≡ n = length-take-le n xs l in
    (omega (arith, z), omega (arith, z), path_here t s a b n rest (omega (arith, e)) m ∙ ap (λ (k : ℕ). nodes_from (take n xs) (path_in (drop k xs))) (sym z))

pub no_node : (xs : List ℕ) (n : ℕ) → 4 ≤ length xs → n ≡ little_number 2 (drop 2 xs) → (n < 4) ⊎ (length xs < n) → path_in xs ≡ None
no_node [] n h e o = absurd (omega arith)
no_node (t ∷ []) n h e o = absurd (omega arith)
no_node (t ∷ s ∷ []) n h e o = absurd (omega arith)
no_node (t ∷ s ∷ a ∷ []) n h e o = absurd (omega arith)
no_node (t ∷ s ∷ a ∷ b ∷ rest) n h e (inl o) = let z : n ≡ a + 256 * b = omega (arith, e) in rw (← z, lt-ltb n 4 o) refl
no_node (t ∷ s ∷ a ∷ b ∷ rest) n h e (inr o) =
    let xs : List ℕ = t ∷ s ∷ a ∷ b ∷ rest in
    let z : n ≡ a + 256 * b = omega (arith, e) in
    let m : 4 ≤ n = omega (arith, h, o) in
    let k : path_in (drop n xs) ≡ None = ap path_in (drop_all n xs (omega (arith, o))) in
    path_here t s a b n rest z m ∙ ap (nodes_from (take n xs)) k ∙ elim (cases_Bool (same_bytes (take n xs) end_of_path)) [
      | inl c ↦
          let d : same_bytes (t ∷ s ∷ a ∷ b ∷ take (n - 4) rest) end_of_path ≡ true = rw (take_behind n (n - 4) t s a b rest (omega arith)) at c in
          absurd (omega (arith, end_returned t s a b (take (n - 4) rest) d))
      | inr c ↦ none_behind (take n xs) c
    ]

-- ---- paths by their bytes

same_end : (t s l h : ℕ) (held rest : List ℕ) → t ∷ s ∷ l ∷ h ∷ held ≡ end_of_path → t ∷ s ∷ l ∷ h ∷ rest ≡ end_of_path ++ rest
same_end t s l h held rest e =
    let a : t ≡ 0x7f = cc in
    let b : s ≡ 0xff = cc in
    let c : l ≡ 4 = cc in
    let d : h ≡ 0 = cc in
    rw (a, b, c, d) refl

mapped : (n : Node) (behind : Option (List Node)) (ns : List Node) → option_map (λ xs. n ∷ xs) behind ≡ Some ns → (ms : List Node) × (behind ≡ Some ms) × (ns ≡ n ∷ ms)
mapped n None ns e = absurd cc
mapped n (Some ms) ns e = (ms, refl, cc)

-- how a path begins
begins : (n : Node) (behind : Option (List Node)) (ns : List Node) → nodes_from n behind ≡ Some ns →
    ((n ≡ end_of_path) × (ns ≡ [])) ⊎ ((is_inner n ≡ true) × (ms : List Node) × (behind ≡ Some ms) × (ns ≡ n ∷ ms))
begins n behind ns e = elim (cases_Bool (same_bytes n end_of_path)) [
  | inl c ↦ let z : Some [] ≡ Some ns = rw c at e in inl ((bytes_eq-Decides n end_of_path).0 c, cc)
  | inr c ↦
      let f = rw c at e in
      elim (cases_Bool (is_inner n)) [
        | inl i ↦ let m = mapped n behind ns (rw i at f) in inr (i, m.0, m.1, m.2)
        | inr i ↦ let z : None ≡ Some ns = rw i at f in absurd cc
      ]
]

-- a node before some bytes that begin with a path
begins_more : (t s l h : ℕ) (rest : List ℕ) (ms : List Node) → 4 ≤ returned_length l h → returned_length l h - 4 ≤ length rest → is_inner (t ∷ s ∷ l ∷ h ∷ take (returned_length l h - 4) rest) ≡ true →
    BeginsWith (drop (returned_length l h - 4) rest) ms → BeginsWith (t ∷ s ∷ l ∷ h ∷ rest) ((t ∷ s ∷ l ∷ h ∷ take (returned_length l h - 4) rest) ∷ ms)
begins_more t s l h rest ms m k i b =
    let d : ℕ = returned_length l h - 4 in
    let n : Node = t ∷ s ∷ l ∷ h ∷ take d rest in
    let z : length (take d rest) ≡ d = length-take-le d rest k in
    record {
      nodes = (record { header = omega arith; returned = omega (arith, z, m); inner = i }, b.nodes);
      rest = b.rest;
      is =
          ap (λ (xs : List ℕ). t ∷ s ∷ l ∷ h ∷ xs) (sym (take-append-drop d rest) ∙ ap (λ (xs : List ℕ). take d rest ++ xs) b.is)
          ∙ ap (λ (xs : List ℕ). n ++ xs) (append_assoc (concat ms) end_of_path b.rest)
          ∙ sym (append_assoc n (concat ms) (end_of_path ++ b.rest))
          ∙ sym (append_assoc (n ++ concat ms) end_of_path b.rest);
    }

begins_behind : (k : ℕ) (bytes : List ℕ) (ns : List Node) → nodes_behind k bytes ≡ Some ns → BeginsWith (drop k bytes) ns
begins_behind (suc k) [] ns e = absurd cc
begins_behind (suc k) (b ∷ bytes) ns e = begins_behind k bytes ns e
begins_behind zero [] ns e = absurd cc
begins_behind zero (t ∷ []) ns e = absurd cc
begins_behind zero (t ∷ s ∷ []) ns e = absurd cc
begins_behind zero (t ∷ s ∷ l ∷ []) ns e = absurd cc
begins_behind zero (t ∷ s ∷ l ∷ h ∷ rest) ns e = elim (cases_lt (returned_length l h) 4) [
  | inl o ↦ let z : None ≡ Some ns = rw (lt-ltb (returned_length l h) 4 o) at e in absurd cc
  | inr o ↦
      let d : ℕ = returned_length l h - 4 in
      let f = rw (le-ltb (returned_length l h) 4 o) at e in
      elim (begins (t ∷ s ∷ l ∷ h ∷ take d rest) (nodes_behind d rest) ns f) [
        | inl (c, z) ↦ rw z (record { nodes = tt; rest = rest; is = same_end t s l h (take d rest) rest c })
        | inr (i, ms, b, z) ↦ elim (cases_lt (length rest) d) [
          | inl u ↦ let y : None ≡ Some ms = sym (run_out d rest (omega (arith, u))) ∙ b in absurd cc
          | inr u ↦ rw z (begins_more t s l h rest ms o u i (begins_behind d rest ms b))
        ]
      ]
]

pub begins_with : (bytes : List ℕ) (ns : List Node) → path_in bytes ≡ Some ns → BeginsWith bytes ns
begins_with bytes ns e = begins_behind 0 bytes ns e
