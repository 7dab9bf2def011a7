-- Free units are taken out of what the marks say is free, and put back. Assumes `Logic`.
use Rattle.std.proofs.Common.{◌≡◌, ℕ, zero, suc, ◌+◌, ◌*◌, ◌<◌, ◌≤◌, List, [], ◌∷◌, ◌++◌, length, replicate, take, drop, refl, sym, ap, subst, ◌∙◌, append_assoc, arith}
use Rattle.std.proofs.lemmas.List.{take-append-drop, length-replicate, length-take-le, length-drop, drop-drop}
use seplogic.Ra.Ura.{Ura}
use base.Logic.{SProp, ent, sep, emp}
use types.Logic.{Logic, sem}
use types.Kit.{‵, raw, ◌⊛◌, ◌$◌, ◌∵◌, !, qed, by, move, keep, drop as lose, use0, use1, use2, split, fsplit, fjoin, rewrite, done}
use denote.Steps.{nothing}
use Rattle.linked_list_allocator.specs.Ownership.{units_of}
use Rattle.linked_list_allocator.proofs.Nodes.{cuts, glues, resized}
use Rattle.raw_pool.specs.Bytes.{put}
use Rattle.raw_pool.proofs.Puts.{length-put}
use Rattle.region_heap.specs.Marks.{AreFree, marked}
use Rattle.region_heap.specs.Ownership.{free_from}
use Rattle.region_heap.proofs.FreeRuns.{free_list}

-- marks in three parts: those before some units, those of the units, and those behind
pub in_parts : (marks mid : List ℕ) (at : ℕ) → take (length mid) (drop at marks) ≡ mid → marks ≡ take at marks ++ (mid ++ drop (at + length mid) marks)
in_parts marks mid at is =
    sym (take-append-drop at marks)
    ∙ ap (λ (xs : List ℕ). take at marks ++ xs) (sym (take-append-drop (length mid) (drop at marks)) ∙ ap (λ (xs : List ℕ). xs ++ drop (length mid) (drop at marks)) is ∙ ap (λ (xs : List ℕ). mid ++ xs) (drop-drop (length mid) at marks))

module _ {M : Type 1} {𝓤 : Ura M} (𝓛 : Logic 𝓤) (b : ℕ) where
  open 𝓛 use {H}

  abbrev Pr : Type 2
  Pr = SProp 𝓤

  abbrev ◌⊢◌ : Pr → Pr → Type 1
  P ⊢ Q = ent 𝓤 P Q

  abbrev ◌∗◌ : Pr → Pr → Pr
  P ∗ Q = sep 𝓤 P Q

  abbrev free : ℕ → List ℕ → Pr
  free o marks = sem 𝓛 (free_from b o marks)

  abbrev pub bytes : ℕ → ℕ → Pr
  bytes x n = H.room (units_of n) b x

  infix 26 ◌⊢◌
  infixr 35 ◌∗◌
  apart : (o : ℕ) (xs ys : List ℕ) → free o (xs ++ ys) ⊢ free o xs ∗ free (o + 16 * length xs) ys
  apart o [] ys =
      let e : o ≡ o + 16 * 0 = omega arith in
      qed 𝓛 (‵ (free_from b o ys) ∷ []) ∵ rewrite ! 0 (λ (k : ℕ). ‵ (free_from b k ys)) e refl $ nothing ! $ done !
  apart o (m ∷ xs) ys =
      let e : o + 16 + 16 * length xs ≡ o + 16 * length (m ∷ xs) = omega arith in
      qed 𝓛 (‵ (free_from b o (m ∷ xs ++ ys)) ∷ []) ∵ fsplit ! $ move ! (1 ∷ []) $
      use1 𝓛 (‵ (free_from b (o + 16) xs) ⊛ ‵ (free_from b (o + 16 + 16 * length xs) ys)) (apart (o + 16) xs ys) $ split ! $
      rewrite ! 1 (λ (k : ℕ). ‵ (free_from b k ys)) e refl $ move ! (2 ∷ 0 ∷ []) $ fjoin ! $ done !

  together : (o : ℕ) (xs ys : List ℕ) → free o xs ∗ free (o + 16 * length xs) ys ⊢ free o (xs ++ ys)
  together o [] ys =
      let e : o + 16 * 0 ≡ o = omega arith in
      qed 𝓛 (‵ (free_from b o []) ∷ ‵ (free_from b (o + 16 * 0) ys) ∷ []) ∵ lose ! $ rewrite ! 0 (λ (k : ℕ). ‵ (free_from b k ys)) e refl $ done !
  together o (m ∷ xs) ys =
      let e : o + 16 * length (m ∷ xs) ≡ o + 16 + 16 * length xs = omega arith in
      qed 𝓛 (‵ (free_from b o (m ∷ xs)) ∷ ‵ (free_from b (o + 16 * length (m ∷ xs)) ys) ∷ []) ∵ rewrite ! 1 (λ (k : ℕ). ‵ (free_from b k ys)) e refl $ fsplit ! $ move ! (1 ∷ 2 ∷ []) $
      use2 𝓛 (‵ (free_from b (o + 16) (xs ++ ys))) (together (o + 16) xs ys) $ move ! (1 ∷ 0 ∷ []) $ done !

  run_out : (o n : ℕ) → free o (replicate (suc n) 0) ⊢ bytes o (16 * suc n)
  run_out o zero = qed 𝓛 (‵ (free_from b o (0 ∷ [])) ∷ []) ∵ fsplit ! $ keep ! (0 ∷ []) $ done !
  run_out o (suc n) =
      qed 𝓛 (‵ (free_from b o (0 ∷ replicate (suc n) 0)) ∷ []) ∵ fsplit ! $ move ! (1 ∷ []) $ use1 𝓛 (raw (bytes (o + 16) (16 * suc n))) (run_out (o + 16) n) $ move ! (1 ∷ 0 ∷ []) $
      use2 𝓛 (raw (bytes o (16 + 16 * suc n))) (glues 𝓛 b o 16 (16 * suc n) refl) $ by ! (resized 𝓛 b o (16 + 16 * suc n) (16 * suc (suc n)) (omega arith))

  -- memory is a number of units that are free
  pub run_in : (o n : ℕ) → bytes o (16 * n) ⊢ free o (replicate n 0)
  run_in o zero = qed 𝓛 (raw (bytes o (16 * 0)) ∷ []) ∵ lose ! $ nothing ! $ done !
  run_in o (suc n) =
      qed 𝓛 (raw (bytes o (16 * suc n)) ∷ []) ∵ use1 𝓛 (raw (bytes o (16 + 16 * n))) (resized 𝓛 b o (16 * suc n) (16 + 16 * n) (omega arith)) $
      use1 𝓛 (raw (bytes o 16) ⊛ raw (bytes (o + 16) (16 * n))) (cuts 𝓛 b o 16 (16 * n) refl) $ split ! $ move ! (1 ∷ []) $
      use1 𝓛 (‵ (free_from b (o + 16) (replicate n 0))) (run_in (o + 16) n) $ move ! (1 ∷ 0 ∷ []) $ done !

  taken_in : (o n : ℕ) → emp 𝓤 ⊢ free o (replicate n 1)
  taken_in o zero = qed 𝓛 [] ∵ nothing ! $ done !
  taken_in o (suc n) = qed 𝓛 [] ∵ use0 𝓛 (‵ (free_from b (o + 16) (replicate n 1))) (taken_in (o + 16) n) $ nothing ! $ done !

  -- n + 1 units that are free are taken out of those from at on
  pub takes_out : (o at n : ℕ) (marks : List ℕ) → at ≤ length marks → take (suc n) (drop at marks) ≡ replicate (suc n) 0 → free o marks ⊢ free o (marked marks at (suc n) 1) ∗ bytes (o + 16 * at) (16 * suc n)
  unfolding put
  takes_out o at n marks inside are =
      let zeros : List ℕ = replicate (suc n) 0 in let ones : List ℕ = replicate (suc n) 1 in
      let n₀ : length zeros ≡ suc n = length-replicate {A = ℕ} (suc n) 0 in let n₁ : length ones ≡ suc n = length-replicate {A = ℕ} (suc n) 1 in
      let before : List ℕ = take at marks in let behind : List ℕ = drop (at + length zeros) marks in
      let here : length before ≡ at = length-take-le at marks inside in
      let parts : marks ≡ before ++ (zeros ++ behind) = in_parts marks zeros at (ap (λ (k : ℕ). take k (drop at marks)) n₀ ∙ are) in
      let same : length zeros ≡ length ones = n₀ ∙ sym n₁ in
      qed 𝓛 (‵ (free_from b o marks) ∷ []) ∵ rewrite ! 0 (λ (ms : List ℕ). ‵ (free_from b o ms)) parts refl $
      use1 𝓛 (‵ (free_from b o before) ⊛ ‵ (free_from b (o + 16 * length before) (zeros ++ behind))) (apart o before (zeros ++ behind)) $ split ! $ move ! (1 ∷ []) $
      use1 𝓛 (‵ (free_from b (o + 16 * length before) zeros) ⊛ ‵ (free_from b (o + 16 * length before + 16 * length zeros) behind)) (apart (o + 16 * length before) zeros behind) $ split ! $
      use1 𝓛 (raw (bytes (o + 16 * length before) (16 * suc n))) (run_out (o + 16 * length before) n) $
      rewrite ! 0 (λ (k : ℕ). raw (bytes (o + 16 * k) (16 * suc n))) here refl $ move ! (1 ∷ []) $
      rewrite ! 0 (λ (k : ℕ). ‵ (free_from b (o + 16 * length before + 16 * k) (drop (at + k) marks))) same refl $
      use0 𝓛 (‵ (free_from b (o + 16 * length before) ones)) (taken_in (o + 16 * length before) (suc n)) $
      use2 𝓛 (‵ (free_from b (o + 16 * length before) (ones ++ drop (at + length ones) marks))) (together (o + 16 * length before) ones (drop (at + length ones) marks)) $ move ! (2 ∷ 0 ∷ []) $
      use2 𝓛 (‵ (free_from b o (before ++ (ones ++ drop (at + length ones) marks)))) (together o before (ones ++ drop (at + length ones) marks)) $
      rewrite ! 0 (λ (ms : List ℕ). ‵ (free_from b o ms)) (sym (append_assoc before ones (drop (at + length ones) marks))) refl $ move ! (0 ∷ 1 ∷ []) $ done !

  -- n units are put back where those from at on may have any marks
  pub puts_in : (o at n : ℕ) (marks : List ℕ) → at + n ≤ length marks → free o marks ∗ bytes (o + 16 * at) (16 * n) ⊢ free o (marked marks at n 0)
  unfolding put
  puts_in o at n marks inside =
      let zeros : List ℕ = replicate n 0 in let n₀ : length zeros ≡ n = length-replicate {A = ℕ} n 0 in
      let before : List ℕ = take at marks in let mid : List ℕ = take n (drop at marks) in let behind : List ℕ = drop (at + length mid) marks in
      let here : length before ≡ at = length-take-le at marks (omega arith) in
      let long : length mid ≡ n = length-take-le n (drop at marks) (omega (arith, length-drop at marks)) in
      let parts : marks ≡ before ++ (mid ++ behind) = in_parts marks mid at (ap (λ (k : ℕ). take k (drop at marks)) long) in
      let same : length mid ≡ length zeros = long ∙ sym n₀ in
      qed 𝓛 (‵ (free_from b o marks) ∷ raw (bytes (o + 16 * at) (16 * n)) ∷ []) ∵ rewrite ! 0 (λ (ms : List ℕ). ‵ (free_from b o ms)) parts refl $
      use1 𝓛 (‵ (free_from b o before) ⊛ ‵ (free_from b (o + 16 * length before) (mid ++ behind))) (apart o before (mid ++ behind)) $ split ! $ move ! (1 ∷ []) $
      use1 𝓛 (‵ (free_from b (o + 16 * length before) mid) ⊛ ‵ (free_from b (o + 16 * length before + 16 * length mid) behind)) (apart (o + 16 * length before) mid behind) $ split ! $ lose ! $
      rewrite ! 0 (λ (k : ℕ). ‵ (free_from b (o + 16 * length before + 16 * k) (drop (at + k) marks))) same refl $ move ! (2 ∷ []) $
      rewrite ! 0 (λ (k : ℕ). raw (bytes (o + 16 * k) (16 * n))) (sym here) refl $
      use1 𝓛 (‵ (free_from b (o + 16 * length before) zeros)) (run_in (o + 16 * length before) n) $
      use2 𝓛 (‵ (free_from b (o + 16 * length before) (zeros ++ drop (at + length zeros) marks))) (together (o + 16 * length before) zeros (drop (at + length zeros) marks)) $ move ! (1 ∷ 0 ∷ []) $
      use2 𝓛 (‵ (free_from b o (before ++ (zeros ++ drop (at + length zeros) marks)))) (together o before (zeros ++ drop (at + length zeros) marks)) $
      rewrite ! 0 (λ (ms : List ℕ). ‵ (free_from b o ms)) (sym (append_assoc before zeros (drop (at + length zeros) marks))) refl $ done !

  -- the same of a block's units and the one behind them
  pub takes : (o at n : ℕ) (marks : List ℕ) → at ≤ length marks → AreFree marks at (n + 1) → free o marks ⊢ free o (marked marks at (n + 1) 1) ∗ bytes (o + 16 * at) (16 * n) ∗ bytes (o + 16 * (at + n)) 16
  takes o at n marks inside are =
      let one : n + 1 ≡ suc n = omega arith in let far : o + 16 * at + 16 * n ≡ o + 16 * (at + n) = omega arith in
      qed 𝓛 (‵ (free_from b o marks) ∷ []) ∵
      use1 𝓛 (‵ (free_from b o (marked marks at (suc n) 1)) ⊛ raw (bytes (o + 16 * at) (16 * suc n))) (takes_out o at n marks inside (free_list (suc n) marks at (subst (AreFree marks at) one are))) $ split ! $
      rewrite ! 0 (λ (k : ℕ). ‵ (free_from b o (marked marks at k 1))) (sym one) refl $ move ! (1 ∷ []) $
      use1 𝓛 (raw (bytes (o + 16 * at) (16 * n + 16))) (resized 𝓛 b (o + 16 * at) (16 * suc n) (16 * n + 16) (omega arith)) $
      use1 𝓛 (raw (bytes (o + 16 * at) (16 * n)) ⊛ raw (bytes (o + 16 * at + 16 * n) 16)) (cuts 𝓛 b (o + 16 * at) (16 * n) 16 (omega arith)) $ split ! $
      rewrite ! 1 (λ (k : ℕ). raw (bytes k 16)) far refl $ move ! (2 ∷ 0 ∷ 1 ∷ []) $ done !

  pub puts : (o at n : ℕ) (marks : List ℕ) → at + n < length marks → free o marks ∗ bytes (o + 16 * at) (16 * n) ∗ bytes (o + 16 * (at + n)) 16 ⊢ free o (marked marks at (n + 1) 0)
  puts o at n marks inside =
      let far : o + 16 * (at + n) ≡ o + 16 * at + 16 * n = omega arith in
      qed 𝓛 (‵ (free_from b o marks) ∷ raw (bytes (o + 16 * at) (16 * n)) ∷ raw (bytes (o + 16 * (at + n)) 16) ∷ []) ∵ rewrite ! 2 (λ (k : ℕ). raw (bytes k 16)) far refl $ move ! (1 ∷ 2 ∷ []) $
      use2 𝓛 (raw (bytes (o + 16 * at) (16 * n + 16))) (glues 𝓛 b (o + 16 * at) (16 * n) 16 (omega arith)) $
      use1 𝓛 (raw (bytes (o + 16 * at) (16 * (n + 1)))) (resized 𝓛 b (o + 16 * at) (16 * n + 16) (16 * (n + 1)) (omega arith)) $ move ! (1 ∷ 0 ∷ []) $
      by ! (puts_in o at (n + 1) marks (omega arith))

pub length-marked : (marks : List ℕ) (at n mark : ℕ) → at + n ≤ length marks → length (marked marks at n mark) ≡ length marks
length-marked marks at n mark inside = omega (arith, length-put marks (replicate n mark) at, length-replicate {A = ℕ} n mark)
