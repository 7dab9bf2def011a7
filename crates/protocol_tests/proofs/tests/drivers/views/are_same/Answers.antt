use Rattle.std.proofs.Common.{◌≡◌, ◌≢◌, ℕ, ◌+◌, ◌<◌, true, false, List, [], ◌∷◌, length, drop, get_or, inl, inr, refl, sym, ◌∙◌, arith}
use Rattle.std.proofs.lemmas.Bool.{cases_Bool}
use Rattle.guid_handles.proofs.SortedLists.{drop_next}
use Rattle.driver_connect.specs.declared.view.ProtocolView.{ProtocolView}
use Rattle.protocol_tests.specs.Probes.{is_same, are_same}
use Rattle.protocol_tests.proofs.tests.drivers.views.are_same.Goals as goal

differ : (vs ws : List ProtocolView) → length vs ≢ length ws → are_same vs ws ≡ false
differ [] [] h = absurd (h refl)
differ [] (w ∷ ws) h = refl
differ (v ∷ vs) [] h = refl
differ (v ∷ vs) (w ∷ ws) h = elim (cases_Bool (is_same v w)) [
  | inl e ↦ rw e (differ vs ws (λ k. h (omega (arith, k))))
  | inr e ↦ rw e refl
]

next : (vs ws : List ProtocolView) (k : ℕ) (v w : ProtocolView) → k < length vs → k < length ws → v ≡ get_or vs k v → w ≡ get_or ws k w
    → is_same v w ≡ true → are_same (drop k vs) (drop k ws) ≡ are_same (drop (k + 1) vs) (drop (k + 1) ws)
next vs ws k v w l m e f h = rw (drop_next vs k v l e) (rw (drop_next ws k w m f) (rw h refl))

pub returns-then-shown-wanted : goal.returns-then-shown-wanted
returns-then-shown-wanted c = sym (differ c.args.shown.now c.args.wanted.now c.if-shown-wanted.true)

pub loop-k-preserved : goal.loop-k-preserved
loop-k-preserved c = record {
  same =
      c.loop-k.invariant.same
      ∙ next c.args.shown.now c.args.wanted.now c.loop-k.k c.index-shown-k.result c.index-wanted-k.result c.loop-k-test.true (let e : length c.args.shown.now ≡ length c.args.wanted.now = c.if-shown-wanted.false in omega arith) c.index-shown-k.is c.index-wanted-k.is
      (sym c.is_same.ensures ∙ c.if-not-is_same.false);
}
