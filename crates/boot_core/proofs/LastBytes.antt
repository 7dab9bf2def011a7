-- The bytes that a read gives are those last laid.
use Rattle.std.proofs.Common.{◌≡◌, ℕ, suc, ◌+◌, ◌-◌, ◌<◌, List, [], ◌∷◌, length, drop, Option, Some, Vec, refl, sym, ap, ◌∙◌, arith}
use Rattle.std.proofs.lemmas.Option.{same_Some}
use Rattle.page_ranges.specs.declared.statuses.Status.TheVariants.{Success}
use Rattle.page_services.proofs.Choices.{best_is_permitted}
use Rattle.pool_services.specs.Laws.{byte_at, first_of, laid}
use Rattle.pool_services.proofs.PoolBytes.{laid-in}
use Rattle.driver_connect.specs.Drivers.{Meaning}
use Rattle.boot_calls.specs.declared.calls.Call.{Call}
use Rattle.boot_calls.specs.declared.calls.Call.TheVariants as call
use Rattle.boot_replies.specs.declared.replies.Reply.{Reply}
use Rattle.boot_replies.specs.declared.replies.Reply.TheVariants as reply
use Rattle.boot_core.specs.Machines.{State, AreSound}
use Rattle.boot_core.specs.Steps.{best_starts, Step, CallRun}
use Rattle.boot_core.specs.Laws.{gives_back, laid_over, lays, left_by, LeavesByte}
use Rattle.boot_core.proofs.PoolBytes.{bytes_after, read_bytes}
use Rattle.boot_core.proofs.Soundness.{run_sound, stays_sound}

-- lists of one length with the same item at each place are equal
same_items : (xs ys : List ℕ) → length xs ≡ length ys → ((i : ℕ) → i < length ys → first_of (drop i xs) ≡ first_of (drop i ys)) → xs ≡ ys
same_items [] [] long same = refl
same_items [] (y ∷ ys) long same = absurd (omega (arith, long))
same_items (x ∷ xs) [] long same = absurd (omega (arith, long))
same_items (x ∷ xs) (y ∷ ys) long same =
    let head : x ≡ y = same_Some x y (same 0 (omega arith)) in
    ap (λ (z : ℕ). z ∷ xs) head ∙ ap (λ (zs : List ℕ). y ∷ zs) (same_items xs ys (omega (arith, long)) (λ i low. same (suc i) (omega (arith, low))))

-- the byte at each address of a call's bytes
laid_at : (address : ℕ) (bytes : List ℕ) (i : ℕ) (old : Option ℕ) → i < length bytes → laid address bytes (address + i) old ≡ first_of (drop i bytes)
laid_at address bytes i old low =
    let place : address + i - address ≡ i = omega arith in
    laid-in address bytes (address + i) old (omega arith) (omega (arith, low)) ∙ ap (λ (n : ℕ). first_of (drop n bytes)) place

lies : {A : Type 0} (ds : List Meaning) (first old : State) (c : Call A) (answer : Reply A) (address : ℕ) (bytes : List ℕ) → AreSound first.parts → Step ds first c answer old → lays first.parts c answer ≡ Some (address, bytes) → (i : ℕ) → i < length bytes → byte_at (address + i) old.parts.pools ≡ first_of (drop i bytes)
lies ds first old c answer address bytes sound step laid_here i low =
    let before = left_by (gives_back c answer) first.parts.pools (address + i) in
    bytes_after ds first.exited first.parts c answer old.parts sound step.answers (address + i) ∙ ap (λ (o : Option (ℕ × List ℕ)). laid_over o (address + i) before) laid_here ∙ laid_at address bytes i before low

-- a byte that no call of a run changes
kept : {A : Type 0} (ds : List Meaning) (old : State) (calls : List (Call A)) (replies : List (Reply A)) (new : State) (run : CallRun ds old calls replies new) (k : ℕ) → AreSound old.parts → LeavesByte ds old calls replies new run k → byte_at k new.parts.pools ≡ byte_at k old.parts.pools
kept ds old [] [] new run k sound leaves = ap (λ (s : State). byte_at k s.parts.pools) run
kept ds old (c ∷ calls) (r ∷ replies) new (next, step, run) k sound leaves =
    let still = stays_sound (best_starts ds) best_is_permitted old.exited old.parts c r next.parts sound step.answers in
    kept ds next calls replies new run k still leaves.1 ∙ bytes_after ds old.exited old.parts c r next.parts sound step.answers k ∙ leaves.0
kept ds old [] (r ∷ replies) new run k sound leaves = absurd run
kept ds old (c ∷ calls) [] new run k sound leaves = absurd run

pub last_bytes : {A : Type 0} (ds : List Meaning) (first old : State) (c : Call A) (answer : Reply A) (address : ℕ) (bytes : List ℕ) (calls : List (Call A)) (replies : List (Reply A)) (new : State) (run : CallRun ds old calls replies new) (used : Vec ℕ A) (after : State) →
    AreSound first.parts → Step ds first c answer old → lays first.parts c answer ≡ Some (address, bytes) → ((i : ℕ) → i < length bytes → LeavesByte ds old calls replies new run (address + i)) →
    Step ds new (call.PoolRead address (length bytes)) (reply.PoolRead Success used) after → used.items ≡ bytes
last_bytes ds first old c answer address bytes calls replies new run used after sound step lays_here leaves reads =
    let still = stays_sound (best_starts ds) best_is_permitted first.exited first.parts c answer old.parts sound step.answers in
    let (long, returned) = read_bytes ds new.exited new.parts after.parts address (length bytes) used (run_sound (best_starts ds) best_is_permitted old calls replies new still run) reads.answers in
    same_items used.items bytes long (λ i low. sym (returned i low) ∙ kept ds old calls replies new run (address + i) still (leaves i low) ∙ lies ds first old c answer address bytes sound step lays_here i low)
