-- A `&` to a slot is a borrow of all of it, which the thread's token opens. Assumes `Logic`.
use Rattle.std.proofs.Common.{[], ◌∷◌}
use base.Fraction.{full_share}
use base.Fml.{fbor}
use types.Logic.{lfts}
use types.Kit.{‵, raw, later, ◌$◌, ◌∵◌, !, qed, use1, await, updating, now, done}
use types.Na.{na_bor, bor_na}
use denote.Memory.{part_at, part_of}
use denote.Hidden.{guarded_shr_laws}
use Rattle.raw_pool.specs.contracts.pages.slot.Slot as C
use Rattle.raw_pool.proofs.pages.slot.Slot.TheLaw.Statement.{statement}

pub shares : statement
unfolding part_of
shares = record {
  shr_laws = λ p b o. guarded_shr_laws (b, o) (part_at C.the_written full_share p b o);
  shares = λ M 𝓤 𝓛 p κ ts b o inside sp.
      let owned = part_at C.the_written full_share p b o in
      qed 𝓛 (‵ (fbor κ owned) ∷ raw (lfts 𝓛 ts) ∷ []) ∵ updating ! $ use1 𝓛 (later (‵ (na_bor κ (b, o) owned))) (bor_na 𝓛 κ (b, o) owned) $ await ! tt $ now ! $ done !;
}
