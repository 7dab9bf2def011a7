-- `cut` takes units out of those that are free, and writes the number of the first behind them. Assumes `Logic`.
use Rattle.std.proofs.Common.{◌≡◌, ℕ, ◌+◌, ◌*◌, ◌^◌, ◌<◌, List, [], ◌∷◌, ◌++◌, length, refl, ap, ◌∙◌, arith, w64}
use mir.Syntax.{Fn, ty_int}
use mir.Val.{Val, vint, vptr}
use base.Logic.{SProp, emp}
use base.Fml.{froom, fwand}
use prog.Wp.{Env, WpFn}
use contract.Monad.{fact, fact_i}
use contract.Running.{tables}
use types.Kit.{‵, raw, ◌⊛◌, prop, at_ret, ◌$◌, ◌∵◌, !, qed, by, move, drop, use0, use1, use2, split, split3, regoal, fsplit, fjoin, join}
use types.Part.{whole, sub, agg}
use types.Run.{stop, fld, init, lit, bin, of_opd, no_more, and_then, assigns, first, blocks, exec, returns, enter}
use types.ByLocal.{alloc_all, pass_all, free_all, look_at, get, get_in, through, sets, sets_last, is, env}
use denote.RattleType.{owns}
use denote.RawPtr.{Ptr, block_ptr}
use denote.Signature.{types_at}
use denote.Steps.{nothing, heard}
use denote.Struct.Tuple.{Tuple}
use denote.Triple.Entry.{alive}
use denote.Triple.Walked.{Stays, stay_dropped, walk_of, Goes-dropped}
use Rattle.core.proofs.alloc.Calls.{Goes-blank}
use Rattle.core.proofs.alloc.Shapes.{after}
use Rattle.std_alloc.proofs.Pairs.{pair_of, pair_val}
use Rattle.std.proofs.raw_atomic.Walks.{proved_at, leaves}
use Rattle.linked_list_allocator.proofs.Walks.{slot_at}
use Rattle.linked_list_allocator.proofs.Values.{list_val, list_own, list_told, list_made}
use Rattle.linked_list_allocator.proofs.Nodes.{retypes}
use Rattle.linked_list_allocator.specs.Ownership.{units_of}
use Rattle.region_heap.specs.Marks.{AreFree, marked}
use Rattle.region_heap.specs.Places.{Place, unit_ptr}
use Rattle.region_heap.specs.Ownership.{free_from}
use Rattle.region_heap.proofs.Units.{takes, length-marked}
use Rattle.region_heap.specs.contracts.memory.Free as free
use Rattle.region_heap.specs.contracts.memory.Block as block
use Rattle.region_heap.specs.contracts.memory.Free.cut.{ended, clauses}
use Rattle.region_heap.specs.contracts.memory.Free.cut.Key.{name as #self}
use Rattle.region_heap.proofs.memory.Free.cut.Statement.{statement}
use Rattle.region_heap.proofs.memory.Free.cut.Code as compiled

pub cut_spec : {M : Type 1} → statement M
cut_spec 𝓤 𝓛 𝓜 𝓡 wired =
    let H = 𝓛.H in let T = ended in let c = clauses 𝓛 𝓜.mem 𝓡.returns in let fn : Fn = compiled.function in
    let stays : Stays T.signature.params T.kept = (stay_dropped (slot_at 0 T.signature.params) T.kept.0, (stay_dropped (slot_at 1 T.signature.params) T.kept.1.0, (stay_dropped (slot_at 2 T.signature.params) T.kept.1.1.0, tt))) in
    let C = (tables 𝓤 H 𝓜 𝓡 𝓡.env).C in let Λ = (tables 𝓤 H 𝓜 𝓡 𝓡.env).Λ in
    proved_at 𝓛 T stays c 𝓜 𝓡 (Goes-blank 𝓛 0 (slot_at 0 T.signature.params) T.kept.0 (λ κs x f. tt), (Goes-dropped 𝓛 0 (slot_at 1 T.signature.params) T.kept.1.0 (λ κs x f. refl), (Goes-dropped 𝓛 0 (slot_at 2 T.signature.params) T.kept.1.1.0 (λ κs x f. refl), tt))) #self fn (compiled.unfolded 𝓤 H 𝓜 𝓡 wired) (λ z are.
    let Post : Val → SProp 𝓤 = (walk_of 𝓛 T stays c).post z in
    let a = z.0.3 in let vss = z.0.4 in let f = a.0 in let at : ℕ = a.1.0 in let units : ℕ = a.1.1.0 in
    let p : Place = f.place in let b = p.object in let o = p.start in
    let Inside : Type 0 = at + units < p.units in let Are : Type 0 = AreFree f.marks at (units + 1) in
    qed 𝓛 ((raw (alive 𝓛 T.signature z.0.0 z.0.1) ⊛ ‵ (owns (types_at T.signature.params z.0.0) a vss)) ∷ (raw (fact 𝓤 Inside) ⊛ raw (fact 𝓤 Are)) ∷ []) ∵
    move ! (1 ∷ []) $ split ! $ heard ! Inside (λ inside. heard ! Are (λ are_free. split ! $ move ! (1 ∷ []) $
    fsplit ! $ fsplit ! $ drop ! $ move ! (1 ∷ []) $ drop ! $
    let small : 16 * p.units < 2 ^ 63 = f.placed.0.1 in let many : length f.marks ≡ p.units = f.placed.1 in
    let start : Ptr = block_ptr b o in let ptr : Ptr = unit_ptr p at in let x : ℕ = o + 16 * at in let end : ℕ = o + 16 * (at + units) in
    let new = marked f.marks at (units + 1) 1 in
    use1 𝓛 (‵ (free_from b o new) ⊛ ‵ (froom (units_of (16 * units)) b x) ⊛ ‵ (froom (units_of 16) b end)) (takes 𝓛 b o at units f.marks (omega arith) are_free) $ split3 ! $ move ! (2 ∷ []) $
    use1 𝓛 (‵ (froom (ty_int w64) b end) ⊛ ‵ (fwand (froom (ty_int w64) b end) (froom (units_of 16) b end))) (retypes 𝓛 b (ty_int w64) end 16 refl (omega arith) tt) $ split ! $
    regoal ! (λ (us : List Val). prop (WpFn 𝓤 H C Λ fn us Post)) (λ i. ((list_told f.start vss.0 are.0.0).0 ∙ ap (λ (q : Ptr). list_val q ∷ []) f.placed.0.0) i ++ (are.1.0.0 i ++ (are.1.1.0.0 i ++ []))) refl $
    enter ! C Λ fn (list_val start ∷ vint w64 at ∷ vint w64 units ∷ []) Post $
    alloc_all ! (λ l. pass_all ! refl ((tt, (tt, tt)), ((tt, record { fits = are.1.0.1 }), ((tt, record { fits = are.1.1.0.1 }), tt))) $ let En : Env 𝓤 𝓛.H = env fn.locals l in
    sets ! (of_opd ! (get_in ! (fld ! refl (stop !)) (sub ! 0 refl (whole !)))) refl (tt, tt) $
    first ! $ blocks ! $
    sets ! (bin ! (lit ! tt) (get ! refl) (record { fits = omega arith })) refl (tt, record { fits = omega arith }) $
    sets ! (is ! (bin ! (get ! refl) (get ! refl) tt) (ap (vptr b) (omega arith))) refl (tt, tt) $
    sets ! (bin ! (lit ! tt) (get ! refl) (record { fits = omega arith })) refl (tt, record { fits = omega arith }) $
    sets ! (is ! (bin ! (get ! refl) (get ! refl) tt) (ap (vptr b) (omega arith))) refl (tt, tt) $
    sets ! (of_opd ! (get ! refl)) refl (tt, tt) $
    assigns ! (of_opd ! (get ! refl)) (through ! refl (stop !)) (init ! 0 refl (tt, record { fits = are.1.0.1 })) $
    sets ! (agg ! (and_then ! (get ! refl) (no_more !))) refl (tt, (tt, tt)) $
    sets ! (agg ! (and_then ! (get ! refl) (no_more !))) refl (tt, (tt, tt)) $
    sets_last ! (agg ! (and_then ! (get ! refl) (and_then ! (get ! refl) (no_more !)))) refl (tt, ((tt, tt), ((tt, tt), tt))) $
    exec ! C Λ En (after 2 fn.body) (at_ret En Post) $
    sets ! (of_opd ! (get ! refl)) refl (tt, ((tt, tt), ((tt, tt), tt))) $
    returns ! (look_at ! 0 refl) $ free_all ! refl $
    -- [the number; the rest of its unit; the free units; the block's; the tokens]
    fjoin ! $ move ! (2 ∷ 0 ∷ []) $ fjoin ! $
    let y : (free.the_row).Denot = record { start = start; place = p; marks = new; placed = ((refl, small), length-marked f.marks at (units + 1) 1 (omega arith) ∙ many) } in
    let w : (block.the_row).Denot = record { ptr = ptr; place = p; at = at; units = units; placed = (refl, inside, small) } in
    use0 𝓛 (‵ (list_own ptr (list_val ptr ∷ []))) (list_made 𝓛 ptr tt) $ fjoin ! $ move ! (1 ∷ []) $
    use0 𝓛 (‵ (list_own start (list_val start ∷ []))) (list_made 𝓛 start tt) $ fjoin ! $
    use2 𝓛 (‵ ((Tuple (free.the_row ∷ block.the_row ∷ [])).own_val (y, w) (pair_val (list_val start) (list_val ptr) ∷ []))) (pair_of 𝓛 free.the_row block.the_row y w (list_val start) (list_val ptr)) $
    let Left : Type 0 = (p ≡ p) × (new ≡ new) in let Cut : Type 0 = (p ≡ p) × (at ≡ at) × (units ≡ units) in
    use0 𝓛 (raw (fact 𝓤 Cut)) (fact_i 𝓤 Cut (emp 𝓤) (refl, refl, refl)) $ use0 𝓛 (raw (fact 𝓤 Left)) (fact_i 𝓤 Left (emp 𝓤) (refl, refl)) $ join ! $
    nothing ! $ nothing ! $ fjoin ! $ nothing ! $ fjoin ! $ nothing ! $ fjoin ! $ move ! (3 ∷ 0 ∷ 2 ∷ 1 ∷ []) $
    by ! (leaves 𝓛 T stays c z (pair_val (list_val start) (list_val ptr)) (y, w) (tt, (tt, (tt, tt))) (tt, (tt, (tt, tt))))))))
