-- `new` puts the cells in. Assumes `Logic`.
use Rattle.std.proofs.Common.{◌≡◌, List, [], ◌∷◌, ◌++◌, refl, lit<, Some}
use mir.Syntax.{Fn}
use mir.Val.{Val, vcons, vnil}
use base.Logic.{SProp, emp}
use base.Fml.{ftrue}
use prog.Wp.{Env, WpFn}
use contract.Monad.{fact, fact_i}
use contract.Running.{tables}
use types.Kit.{‵, raw, ◌⊛◌, prop, ◌$◌, ◌∵◌, !, qed, by, move, drop, use0, use1, split, rewrite, regoal, fsplit, fjoin, fpack}
use types.Part.{agg}
use types.Match.{live}
use types.Run.{lit, of_opd, no_more, and_then, returns, enter}
use types.ByLocal.{alloc_all, pass_all, free_all, look_at, get, sets, env}
use denote.Exit.{rest, yes}
use denote.Laws.{Typed}
use denote.Param.{layout}
use denote.RattleType.{owns}
use denote.Signature.{types_at}
use denote.Steps.{nothing}
use denote.Triple.Entry.{alive}
use denote.Triple.Walked.{Stays, stay_dropped, walk_of}
use Rattle.core.proofs.alloc.Calls.{Goes-blank}
use Rattle.core.proofs.cell.Inside.{one, round}
use Rattle.core.proofs.option.Made.{Some-of}
use Rattle.std_alloc.proofs.ResultValues.{and_tt}
use Rattle.std.proofs.raw_atomic.Walks.{proved_at, leaves}
use Rattle.linked_list_allocator.proofs.Walks.{slot_at}
use Rattle.raw_pool.specs.PagePlaces.{Place}
use Rattle.raw_pool.proofs.PageContents.{Held, Fields, contents_in}
use Rattle.raw_pool.specs.contracts.pages.cells.Cells as cells
use Rattle.raw_pool.proofs.pages.cells.Cells.TheLaws as cells_laws
use Rattle.raw_pool.specs.contracts.pages.slot.Slot.new.{ended, clauses}
use Rattle.raw_pool.specs.contracts.pages.slot.Slot.new.Key.{name as #self}
use Rattle.raw_pool.proofs.pages.slot.Slot.new.Statement.{statement}
use Rattle.raw_pool.proofs.pages.slot.Slot.new.Code as compiled

pub new_spec : {M : Type 1} → statement M
new_spec 𝓤 𝓛 𝓜 𝓡 wired =
    let H = 𝓛.H in let T = ended in let c = clauses 𝓛 𝓜.mem 𝓡.returns in let fn : Fn = compiled.function in
    let stays : Stays T.signature.params T.kept = (stay_dropped (slot_at 0 T.signature.params) T.kept.0, tt) in
    let C = (tables 𝓤 H 𝓜 𝓡 𝓡.env).C in let Λ = (tables 𝓤 H 𝓜 𝓡 𝓡.env).Λ in
    proved_at 𝓛 T stays c 𝓜 𝓡 (Goes-blank 𝓛 0 (slot_at 0 T.signature.params) T.kept.0 (λ κs x f. tt), tt) #self fn (compiled.unfolded 𝓤 H 𝓜 𝓡 wired) (λ z are.
    let Post : Val → SProp 𝓤 = (walk_of 𝓛 T stays c).post z in
    let a = z.0.3 in let vss = z.0.4 in let x = a.0 in let p : Place = x.free.place in
    let known = one (layout cells.the_row) vss.0 (((cells_laws.the_row_laws).lawful 𝓛).typed x vss.0 are.0) in
    let w : Val = known.0 in let good = known.2 in let v : Val = live 1 (vcons w vnil) in
    qed 𝓛 ((raw (alive 𝓛 T.signature z.0.0 z.0.1) ⊛ ‵ (owns (types_at T.signature.params z.0.0) a vss)) ∷ ‵ ftrue ∷ []) ∵ move ! (1 ∷ []) $ drop ! $ split ! $ move ! (1 ∷ []) $
    fsplit ! $ move ! (1 ∷ []) $ drop ! $ rewrite ! 0 (λ (us : List Val). ‵ ((cells.the_row).own_val x us)) known.1 refl $
    regoal ! (λ (us : List Val). prop (WpFn 𝓤 H C Λ fn us Post)) (λ i. known.1 i ++ []) refl $
    enter ! C Λ fn (w ∷ []) Post $
    alloc_all ! (λ l. pass_all ! refl (good, tt) $ let En : Env 𝓤 𝓛.H = env fn.locals l in
    sets ! (of_opd ! (get ! refl)) refl good $
    sets ! (agg ! (and_then ! (lit ! tt) (and_then ! (get ! refl) (no_more !)))) refl (and_tt _ ((good).0), (record { fits = lit< tt }, ((good).1, tt))) $
    sets ! (agg ! (and_then ! (get ! refl) (no_more !))) refl (and_tt _ (and_tt _ ((good).0)), ((record { fits = lit< tt }, ((good).1, tt)), tt)) $
    returns ! (look_at ! 0 refl) $ free_all ! refl $
    use1 𝓛 (‵ (Held.own_val (Some x) (v ∷ []))) (Some-of 𝓛 cells.the_row x w) $ contents_in p ! (Some x) v refl $ nothing ! $
    fpack ! (Typed Fields.mir (round v ∷ [])) (λ _. ftrue) ((and_tt _ (and_tt _ ((good).0)), ((record { fits = lit< tt }, ((good).1, tt)), tt)), tt) $ fjoin ! $
    use0 𝓛 (raw (fact 𝓤 (p ≡ p))) (fact_i 𝓤 (p ≡ p) (emp 𝓤) (refl)) $ nothing ! $ nothing ! $ fjoin ! $ move ! (3 ∷ 0 ∷ 2 ∷ 1 ∷ []) $
    by ! (leaves 𝓛 T stays c z (round v) p (rest ((cells.the_row).exit yes) x, tt) (tt, tt))))
