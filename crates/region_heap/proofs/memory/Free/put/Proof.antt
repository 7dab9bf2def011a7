-- `put` reads the number behind a block's units, and puts them back. Assumes `Logic`.
use Rattle.std.proofs.Common.{◌≡◌, ℕ, ◌+◌, ◌*◌, ◌^◌, ◌<◌, List, [], ◌∷◌, ◌++◌, length, refl, ap, subst, ◌∙◌, arith, w64}
use mir.Syntax.{Fn, ty_int}
use mir.Val.{Val, vint, vptr}
use base.Logic.{SProp, emp, apply∗}
use base.Fml.{froom}
use prog.Wp.{Env, WpFn}
use contract.Monad.{fact, fact_i}
use contract.Running.{tables}
use types.Logic.{sem}
use types.Kit.{‵, raw, ◌⊛◌, prop, at_ret, ◌$◌, ◌∵◌, !, qed, by, move, drop, use0, use1, use2, use3, split, regoal, rewrite, fsplit, fjoin, join, feq_i, flt_i}
use types.Part.{whole, sub, agg, look_in}
use types.Run.{stop, fld, load, lit, bin, of_opd, no_more, and_then, first, blocks, exec, returns, enter}
use types.ByLocal.{alloc_all, pass_all, free_all, look_at, get, get_in, through, sets, sets_last, is, env}
use denote.Builtin.{usize}
use denote.RattleType.{owns}
use denote.RawPtr.{Ptr, block_ptr}
use denote.Signature.{types_at}
use denote.Steps.{nothing, heard}
use denote.Struct.Tuple.{Tuple}
use denote.Triple.Entry.{alive}
use denote.Triple.Walked.{Stays, stay_dropped, walk_of, Goes-dropped}
use Rattle.core.proofs.alloc.Calls.{Goes-blank}
use Rattle.core.proofs.alloc.Shapes.{after}
use Rattle.std_alloc.proofs.Pairs.{pair_of, pair_val}
use Rattle.std.proofs.raw_atomic.Walks.{proved_at, leaves}
use Rattle.linked_list_allocator.proofs.Walks.{slot_at}
use Rattle.linked_list_allocator.proofs.Values.{list_val, list_own, list_told, list_made}
use Rattle.linked_list_allocator.specs.Ownership.{units_of}
use Rattle.region_heap.specs.Marks.{marked}
use Rattle.region_heap.specs.Places.{Place, IsBlock, unit_ptr}
use Rattle.region_heap.specs.Ownership.{free_from, block_owned}
use Rattle.region_heap.proofs.Units.{puts, length-marked}
use Rattle.region_heap.specs.contracts.memory.Free as free
use Rattle.region_heap.specs.contracts.memory.Free.put.{ended, clauses}
use Rattle.region_heap.specs.contracts.memory.Free.put.Key.{name as #self}
use Rattle.region_heap.proofs.memory.Free.put.Statement.{statement}
use Rattle.region_heap.proofs.memory.Free.put.Code as compiled

pub put_spec : {M : Type 1} → statement M
put_spec 𝓤 𝓛 𝓜 𝓡 wired =
    let H = 𝓛.H in let T = ended in let c = clauses 𝓛 𝓜.mem 𝓡.returns in let fn : Fn = compiled.function in
    let stays : Stays T.signature.params T.kept = (stay_dropped (slot_at 0 T.signature.params) T.kept.0, (stay_dropped (slot_at 1 T.signature.params) T.kept.1.0, (stay_dropped (slot_at 2 T.signature.params) T.kept.1.1.0, tt))) in
    let C = (tables 𝓤 H 𝓜 𝓡 𝓡.env).C in let Λ = (tables 𝓤 H 𝓜 𝓡 𝓡.env).Λ in
    proved_at 𝓛 T stays c 𝓜 𝓡 (Goes-blank 𝓛 0 (slot_at 0 T.signature.params) T.kept.0 (λ κs x f. tt), (Goes-blank 𝓛 0 (slot_at 1 T.signature.params) T.kept.1.0 (λ κs x f. tt), (Goes-dropped 𝓛 0 (slot_at 2 T.signature.params) T.kept.1.1.0 (λ κs x f. refl), tt))) #self fn (compiled.unfolded 𝓤 H 𝓜 𝓡 wired) (λ z are.
    let Post : Val → SProp 𝓤 = (walk_of 𝓛 T stays c).post z in
    let a = z.0.3 in let vss = z.0.4 in let f = a.0 in let w = a.1.0 in let units : ℕ = a.1.1.0 in let at : ℕ = w.at in
    let p : Place = f.place in let b = p.object in let o = p.start in
    let Asked : Type 0 = (w.place ≡ p) × (w.units ≡ units) in
    qed 𝓛 ((raw (alive 𝓛 T.signature z.0.0 z.0.1) ⊛ ‵ (owns (types_at T.signature.params z.0.0) a vss)) ∷ raw (fact 𝓤 Asked) ∷ []) ∵
    move ! (1 ∷ []) $ heard ! Asked (λ asked. split ! $ move ! (1 ∷ []) $
    fsplit ! $ fsplit ! $ drop ! $ move ! (1 ∷ []) $ fsplit ! $ fsplit ! $ drop ! $ move ! (1 ∷ []) $ drop ! $
    rewrite ! 0 (λ (u : Place × ℕ). ‵ (block_owned u.0 at u.1)) (λ i. (asked.0 i, asked.1 i)) refl $
    let lies : IsBlock p w.ptr at units = subst (λ (u : Place × ℕ). IsBlock u.0 w.ptr at u.1) (λ i. (asked.0 i, asked.1 i)) w.placed in
    let inside : at + units < p.units = lies.1 in
    let small : 16 * p.units < 2 ^ 63 = f.placed.0.1 in let many : length f.marks ≡ p.units = f.placed.1 in
    let start : Ptr = block_ptr b o in let ptr : Ptr = unit_ptr p at in let x : ℕ = o + 16 * at in let end : ℕ = o + 16 * (at + units) in
    let new = marked f.marks at (units + 1) 0 in let fits : at < 2 ^ 64 = omega arith in
    fsplit ! $ move ! (1 ∷ []) $ fsplit ! $
    regoal ! (λ (us : List Val). prop (WpFn 𝓤 H C Λ fn us Post)) (λ i. ((list_told f.start vss.0 are.0.0).0 ∙ ap (λ (q : Ptr). list_val q ∷ []) f.placed.0.0) i ++ (((list_told w.ptr vss.1.0 are.1.0.0).0 ∙ ap (λ (q : Ptr). list_val q ∷ []) lies.0) i ++ (are.1.1.0.0 i ++ []))) refl $
    enter ! C Λ fn (list_val start ∷ list_val ptr ∷ vint w64 units ∷ []) Post $
    alloc_all ! (λ l. pass_all ! refl ((tt, (tt, tt)), ((tt, (tt, tt)), ((tt, record { fits = are.1.1.0.1 }), tt))) $ let En : Env 𝓤 𝓛.H = env fn.locals l in
    sets ! (of_opd ! (get_in ! (fld ! refl (stop !)) (sub ! 0 refl (whole !)))) refl (tt, tt) $
    sets ! (of_opd ! (get_in ! (fld ! refl (stop !)) (sub ! 0 refl (whole !)))) refl (tt, tt) $
    first ! $ blocks ! $
    sets ! (bin ! (lit ! tt) (get ! refl) (record { fits = omega arith })) refl (tt, record { fits = omega arith }) $
    sets ! (is ! (bin ! (get ! refl) (get ! refl) tt) (ap (vptr b) (omega arith))) refl (tt, tt) $
    sets ! (of_opd ! (get ! refl)) refl (tt, tt) $
    sets ! (of_opd ! (load ! (through ! refl (stop !)) (look_in ! 0 (whole !)))) refl (tt, record { fits = fits }) $
    sets ! (agg ! (and_then ! (get ! refl) (no_more !))) refl (tt, (tt, tt)) $
    sets_last ! (agg ! (and_then ! (get ! refl) (and_then ! (get ! refl) (no_more !)))) refl (tt, ((tt, tt), (record { fits = fits }, tt))) $
    exec ! C Λ En (after 3 fn.body) (at_ret En Post) $
    sets ! (of_opd ! (get ! refl)) refl (tt, ((tt, tt), (record { fits = fits }, tt))) $
    returns ! (look_at ! 0 refl) $ free_all ! refl $
    -- [the number; the rest of its unit; the block's units; the free units; the tokens]
    use1 𝓛 (‵ (froom (ty_int w64) b end)) (𝓛.laws.at_room (ty_int w64) b end (vint w64 at)) $
    use2 𝓛 (‵ (froom (units_of 16) b end)) (apply∗ 𝓤 (sem 𝓛 (froom (ty_int w64) b end)) (sem 𝓛 (froom (units_of 16) b end))) $ move ! (2 ∷ 1 ∷ 0 ∷ []) $
    use3 𝓛 (‵ (free_from b o new)) (puts 𝓛 b o at units f.marks (omega arith)) $
    let y : (free.the_row).Denot = record { start = start; place = p; marks = new; placed = ((refl, small), length-marked f.marks at (units + 1) 0 (omega arith) ∙ many) } in
    use0 𝓛 (‵ (list_own start (list_val start ∷ []))) (list_made 𝓛 start tt) $ fjoin ! $
    flt_i ! at (2 ^ 64) fits $ feq_i ! (List Val) (vint w64 at ∷ []) (vint w64 at ∷ []) refl $ fjoin ! $ move ! (1 ∷ 0 ∷ []) $
    use2 𝓛 (‵ ((Tuple (free.the_row ∷ usize ∷ [])).own_val (y, at) (pair_val (list_val start) (vint w64 at) ∷ []))) (pair_of 𝓛 free.the_row usize y at (list_val start) (vint w64 at)) $
    let Left : Type 0 = (p ≡ p) × (new ≡ new) in let First : Type 0 = (at ≡ at) × (at + units < p.units) in
    use0 𝓛 (raw (fact 𝓤 First)) (fact_i 𝓤 First (emp 𝓤) (refl, inside)) $ use0 𝓛 (raw (fact 𝓤 Left)) (fact_i 𝓤 Left (emp 𝓤) (refl, refl)) $ join ! $
    nothing ! $ nothing ! $ fjoin ! $ nothing ! $ fjoin ! $ nothing ! $ fjoin ! $ move ! (3 ∷ 0 ∷ 2 ∷ 1 ∷ []) $
    by ! (leaves 𝓛 T stays c z (pair_val (list_val start) (vint w64 at)) (y, at) (tt, (tt, (tt, tt))) (tt, (tt, (tt, tt)))))))
