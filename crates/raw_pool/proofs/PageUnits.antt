-- Free pages are taken out of what the marks say is free, and put back. Assumes `Logic`.
use Rattle.std.proofs.Common.{◌≡◌, ℕ, zero, suc, ◌+◌, ◌*◌, ◌<◌, ◌≤◌, List, [], ◌∷◌, ◌++◌, length, replicate, take, drop, refl, sym, ap, ◌∙◌, append_assoc, arith}
use Rattle.std.proofs.lemmas.List.{take-append-drop, length-replicate, length-take-le, length-drop, drop-drop}
use seplogic.Ra.Ura.{Ura}
use base.Logic.{SProp, ent, sep, emp}
use base.Fml.{froom}
use mir.Syntax.{w8, ty_int}
use denote.RawPtr.Room.{past, past_bytes, room_cut, room_glue}
use types.Logic.{Logic, sem}
use types.Kit.{‵, ◌⊛◌, ◌$◌, ◌∵◌, !, qed, by, move, keep, drop as lose, use0, use1, use2, split, fsplit, fjoin, rewrite, done}
use denote.Steps.{nothing}
use Rattle.raw_pool.specs.Bytes.{put}
use Rattle.raw_pool.specs.Ownership.{byte_row}
use Rattle.raw_pool.proofs.Puts.{length-put}
use Rattle.raw_pool.specs.PageMarks.{AreFree, remarked}
use Rattle.raw_pool.specs.PageOwnership.{free_from}
use Rattle.raw_pool.proofs.PageRuns.{free_list}

-- marks in three parts: those before some pages, those of the pages, and those behind
pub in_parts : (marks mid : List ℕ) (at : ℕ) → take (length mid) (drop at marks) ≡ mid → marks ≡ take at marks ++ (mid ++ drop (at + length mid) marks)
in_parts marks mid at is =
    sym (take-append-drop at marks)
    ∙ ap (λ (xs : List ℕ). take at marks ++ xs) (sym (take-append-drop (length mid) (drop at marks)) ∙ ap (λ (xs : List ℕ). xs ++ drop (length mid) (drop at marks)) is ∙ ap (λ (xs : List ℕ). mid ++ xs) (drop-drop (length mid) at marks))

module _ {M : Type 1} {𝓤 : Ura M} (𝓛 : Logic 𝓤) (b : ℕ) where
  open 𝓛 use {H}

  abbrev Pr : Type 2
  Pr = SProp 𝓤

  abbrev ◌⊢◌ : Pr → Pr → Type 1
  P ⊢ Q = ent 𝓤 P Q

  abbrev ◌∗◌ : Pr → Pr → Pr
  P ∗ Q = sep 𝓤 P Q

  abbrev free : ℕ → List ℕ → Pr
  free o marks = sem 𝓛 (free_from b o marks)

  abbrev pub bytes : ℕ → ℕ → Pr
  bytes x n = H.room (byte_row n) b x

  infix 26 ◌⊢◌
  infixr 35 ◌∗◌
  cuts : (x m k : ℕ) → bytes x (m + k) ⊢ bytes x m ∗ bytes (x + m) k
  cuts x m k =
      qed 𝓛 (‵ (froom (byte_row (m + k)) b x) ∷ []) ∵
      use1 𝓛 (‵ (froom (byte_row m) b x) ⊛ ‵ (froom (byte_row k) b (past (ty_int w8) m x))) (room_cut 𝓛 (ty_int w8) m k b x) $ split ! $
      rewrite ! 1 (λ (j : ℕ). ‵ (froom (byte_row k) b j)) (past_bytes m x) refl $ done !

  glues : (x m k : ℕ) → bytes x m ∗ bytes (x + m) k ⊢ bytes x (m + k)
  glues x m k =
      qed 𝓛 (‵ (froom (byte_row m) b x) ∷ ‵ (froom (byte_row k) b (x + m)) ∷ []) ∵
      rewrite ! 1 (λ (j : ℕ). ‵ (froom (byte_row k) b j)) (sym (past_bytes m x)) refl $ by ! (room_glue 𝓛 (ty_int w8) m k b x)

  resized : (x n m : ℕ) → n ≡ m → bytes x n ⊢ bytes x m
  resized x n m e = qed 𝓛 (‵ (froom (byte_row n) b x) ∷ []) ∵ rewrite ! 0 (λ (j : ℕ). ‵ (froom (byte_row j) b x)) e refl $ done !

  apart : (o : ℕ) (xs ys : List ℕ) → free o (xs ++ ys) ⊢ free o xs ∗ free (o + 4096 * length xs) ys
  apart o [] ys =
      let e : o ≡ o + 4096 * 0 = omega arith in
      qed 𝓛 (‵ (free_from b o ys) ∷ []) ∵ rewrite ! 0 (λ (k : ℕ). ‵ (free_from b k ys)) e refl $ nothing ! $ done !
  apart o (m ∷ xs) ys =
      let e : o + 4096 + 4096 * length xs ≡ o + 4096 * length (m ∷ xs) = omega arith in
      qed 𝓛 (‵ (free_from b o (m ∷ xs ++ ys)) ∷ []) ∵ fsplit ! $ move ! (1 ∷ []) $
      use1 𝓛 (‵ (free_from b (o + 4096) xs) ⊛ ‵ (free_from b (o + 4096 + 4096 * length xs) ys)) (apart (o + 4096) xs ys) $ split ! $
      rewrite ! 1 (λ (k : ℕ). ‵ (free_from b k ys)) e refl $ move ! (2 ∷ 0 ∷ []) $ fjoin ! $ done !

  together : (o : ℕ) (xs ys : List ℕ) → free o xs ∗ free (o + 4096 * length xs) ys ⊢ free o (xs ++ ys)
  together o [] ys =
      let e : o + 4096 * 0 ≡ o = omega arith in
      qed 𝓛 (‵ (free_from b o []) ∷ ‵ (free_from b (o + 4096 * 0) ys) ∷ []) ∵ lose ! $ rewrite ! 0 (λ (k : ℕ). ‵ (free_from b k ys)) e refl $ done !
  together o (m ∷ xs) ys =
      let e : o + 4096 * length (m ∷ xs) ≡ o + 4096 + 4096 * length xs = omega arith in
      qed 𝓛 (‵ (free_from b o (m ∷ xs)) ∷ ‵ (free_from b (o + 4096 * length (m ∷ xs)) ys) ∷ []) ∵ rewrite ! 1 (λ (k : ℕ). ‵ (free_from b k ys)) e refl $ fsplit ! $ move ! (1 ∷ 2 ∷ []) $
      use2 𝓛 (‵ (free_from b (o + 4096) (xs ++ ys))) (together (o + 4096) xs ys) $ move ! (1 ∷ 0 ∷ []) $ done !

  run_out : (o n : ℕ) → free o (replicate (suc n) 0) ⊢ bytes o (4096 * suc n)
  run_out o zero = qed 𝓛 (‵ (free_from b o (0 ∷ [])) ∷ []) ∵ fsplit ! $ keep ! (0 ∷ []) $ done !
  run_out o (suc n) =
      qed 𝓛 (‵ (free_from b o (0 ∷ replicate (suc n) 0)) ∷ []) ∵ fsplit ! $ move ! (1 ∷ []) $ use1 𝓛 (‵ (froom (byte_row (4096 * suc n)) b (o + 4096))) (run_out (o + 4096) n) $ move ! (1 ∷ 0 ∷ []) $
      use2 𝓛 (‵ (froom (byte_row (4096 + 4096 * suc n)) b o)) (glues o 4096 (4096 * suc n)) $ by ! (resized o (4096 + 4096 * suc n) (4096 * suc (suc n)) (omega arith))

  -- memory is a number of pages that are free
  pub run_in : (o n : ℕ) → bytes o (4096 * n) ⊢ free o (replicate n 0)
  run_in o zero = qed 𝓛 (‵ (froom (byte_row (4096 * 0)) b o) ∷ []) ∵ lose ! $ nothing ! $ done !
  run_in o (suc n) =
      qed 𝓛 (‵ (froom (byte_row (4096 * suc n)) b o) ∷ []) ∵ use1 𝓛 (‵ (froom (byte_row (4096 + 4096 * n)) b o)) (resized o (4096 * suc n) (4096 + 4096 * n) (omega arith)) $
      use1 𝓛 (‵ (froom (byte_row 4096) b o) ⊛ ‵ (froom (byte_row (4096 * n)) b (o + 4096))) (cuts o 4096 (4096 * n)) $ split ! $ move ! (1 ∷ []) $
      use1 𝓛 (‵ (free_from b (o + 4096) (replicate n 0))) (run_in (o + 4096) n) $ move ! (1 ∷ 0 ∷ []) $ done !

  taken_in : (o n : ℕ) → emp 𝓤 ⊢ free o (replicate n 1)
  taken_in o zero = qed 𝓛 [] ∵ nothing ! $ done !
  taken_in o (suc n) = qed 𝓛 [] ∵ use0 𝓛 (‵ (free_from b (o + 4096) (replicate n 1))) (taken_in (o + 4096) n) $ nothing ! $ done !

  -- n + 1 pages that are free are taken out of those from at on
  pub takes_out : (o at n : ℕ) (marks : List ℕ) → at ≤ length marks → take (suc n) (drop at marks) ≡ replicate (suc n) 0 → free o marks ⊢ free o (remarked marks at (suc n) 1) ∗ bytes (o + 4096 * at) (4096 * suc n)
  unfolding put
  takes_out o at n marks inside are =
      let zeros : List ℕ = replicate (suc n) 0 in let ones : List ℕ = replicate (suc n) 1 in
      let n₀ : length zeros ≡ suc n = length-replicate {A = ℕ} (suc n) 0 in let n₁ : length ones ≡ suc n = length-replicate {A = ℕ} (suc n) 1 in
      let before : List ℕ = take at marks in let behind : List ℕ = drop (at + length zeros) marks in
      let here : length before ≡ at = length-take-le at marks inside in
      let parts : marks ≡ before ++ (zeros ++ behind) = in_parts marks zeros at (ap (λ (k : ℕ). take k (drop at marks)) n₀ ∙ are) in
      let same : length zeros ≡ length ones = n₀ ∙ sym n₁ in
      qed 𝓛 (‵ (free_from b o marks) ∷ []) ∵ rewrite ! 0 (λ (ms : List ℕ). ‵ (free_from b o ms)) parts refl $
      use1 𝓛 (‵ (free_from b o before) ⊛ ‵ (free_from b (o + 4096 * length before) (zeros ++ behind))) (apart o before (zeros ++ behind)) $ split ! $ move ! (1 ∷ []) $
      use1 𝓛 (‵ (free_from b (o + 4096 * length before) zeros) ⊛ ‵ (free_from b (o + 4096 * length before + 4096 * length zeros) behind)) (apart (o + 4096 * length before) zeros behind) $ split ! $
      use1 𝓛 (‵ (froom (byte_row (4096 * suc n)) b (o + 4096 * length before))) (run_out (o + 4096 * length before) n) $
      rewrite ! 0 (λ (k : ℕ). ‵ (froom (byte_row (4096 * suc n)) b (o + 4096 * k))) here refl $ move ! (1 ∷ []) $
      rewrite ! 0 (λ (k : ℕ). ‵ (free_from b (o + 4096 * length before + 4096 * k) (drop (at + k) marks))) same refl $
      use0 𝓛 (‵ (free_from b (o + 4096 * length before) ones)) (taken_in (o + 4096 * length before) (suc n)) $
      use2 𝓛 (‵ (free_from b (o + 4096 * length before) (ones ++ drop (at + length ones) marks))) (together (o + 4096 * length before) ones (drop (at + length ones) marks)) $ move ! (2 ∷ 0 ∷ []) $
      use2 𝓛 (‵ (free_from b o (before ++ (ones ++ drop (at + length ones) marks)))) (together o before (ones ++ drop (at + length ones) marks)) $
      rewrite ! 0 (λ (ms : List ℕ). ‵ (free_from b o ms)) (sym (append_assoc before ones (drop (at + length ones) marks))) refl $ move ! (0 ∷ 1 ∷ []) $ done !

  -- n pages are put back where those from at on may have any marks
  pub puts_in : (o at n : ℕ) (marks : List ℕ) → at + n ≤ length marks → free o marks ∗ bytes (o + 4096 * at) (4096 * n) ⊢ free o (remarked marks at n 0)
  unfolding put
  puts_in o at n marks inside =
      let zeros : List ℕ = replicate n 0 in let n₀ : length zeros ≡ n = length-replicate {A = ℕ} n 0 in
      let before : List ℕ = take at marks in let mid : List ℕ = take n (drop at marks) in let behind : List ℕ = drop (at + length mid) marks in
      let here : length before ≡ at = length-take-le at marks (omega arith) in
      let long : length mid ≡ n = length-take-le n (drop at marks) (omega (arith, length-drop at marks)) in
      let parts : marks ≡ before ++ (mid ++ behind) = in_parts marks mid at (ap (λ (k : ℕ). take k (drop at marks)) long) in
      let same : length mid ≡ length zeros = long ∙ sym n₀ in
      qed 𝓛 (‵ (free_from b o marks) ∷ ‵ (froom (byte_row (4096 * n)) b (o + 4096 * at)) ∷ []) ∵ rewrite ! 0 (λ (ms : List ℕ). ‵ (free_from b o ms)) parts refl $
      use1 𝓛 (‵ (free_from b o before) ⊛ ‵ (free_from b (o + 4096 * length before) (mid ++ behind))) (apart o before (mid ++ behind)) $ split ! $ move ! (1 ∷ []) $
      use1 𝓛 (‵ (free_from b (o + 4096 * length before) mid) ⊛ ‵ (free_from b (o + 4096 * length before + 4096 * length mid) behind)) (apart (o + 4096 * length before) mid behind) $ split ! $ lose ! $
      rewrite ! 0 (λ (k : ℕ). ‵ (free_from b (o + 4096 * length before + 4096 * k) (drop (at + k) marks))) same refl $ move ! (2 ∷ []) $
      rewrite ! 0 (λ (k : ℕ). ‵ (froom (byte_row (4096 * n)) b (o + 4096 * k))) (sym here) refl $
      use1 𝓛 (‵ (free_from b (o + 4096 * length before) zeros)) (run_in (o + 4096 * length before) n) $
      use2 𝓛 (‵ (free_from b (o + 4096 * length before) (zeros ++ drop (at + length zeros) marks))) (together (o + 4096 * length before) zeros (drop (at + length zeros) marks)) $ move ! (1 ∷ 0 ∷ []) $
      use2 𝓛 (‵ (free_from b o (before ++ (zeros ++ drop (at + length zeros) marks)))) (together o before (zeros ++ drop (at + length zeros) marks)) $
      rewrite ! 0 (λ (ms : List ℕ). ‵ (free_from b o ms)) (sym (append_assoc before zeros (drop (at + length zeros) marks))) refl $ done !

  -- the same by marks
  pub takes : (o at n : ℕ) (marks : List ℕ) → 0 < n → at ≤ length marks → AreFree marks at n → free o marks ⊢ free o (remarked marks at n 1) ∗ bytes (o + 4096 * at) (4096 * n)
  takes o at zero marks some inside are = absurd (let none : 0 < 0 = some in omega (arith, none))
  takes o at (suc n) marks some inside are = takes_out o at n marks inside (free_list (suc n) marks at are)

pub length-remarked : (marks : List ℕ) (at n mark : ℕ) → at + n ≤ length marks → length (remarked marks at n mark) ≡ length marks
length-remarked marks at n mark inside = omega (arith, length-put marks (replicate n mark) at, length-replicate {A = ℕ} n mark)
