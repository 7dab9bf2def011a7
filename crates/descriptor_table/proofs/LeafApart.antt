-- Two lists of runs whose border lies between two runs that are not one.
use Rattle.std.proofs.Common.{◌≡◌, ◌<◌, false, List, [], ◌∷◌, ◌++◌, length, refl, sym, subst, ◌∙◌, append-nil, arith}
use Rattle.page_ranges.specs.declared.ranges.Run.{Run}
use Rattle.page_ranges.specs.Runs.{should_be_one_run, AreRuns, AreMaximalRuns}
use Rattle.page_ranges.proofs.RunLists.{runs-right}
use Rattle.descriptor_table.specs.LeafBorders.{AreApart}
use Rattle.descriptor_table.proofs.LeafLists.{begin_by_first, end_by_next}
use Rattle.descriptor_table.proofs.Meetings.{maximal-append, meet, meet-append, meet-rest}

pub are_apart : (rs ss : List Run) → meet should_be_one_run rs ss ≡ false → AreApart rs ss
are_apart [] ss e = tt
are_apart (r ∷ []) [] e = tt
are_apart (r ∷ []) (s ∷ ss) e = e
are_apart (r ∷ q ∷ rs) ss e = are_apart (q ∷ rs) ss (sym (meet-rest should_be_one_run r q rs ss) ∙ e)

not_met : (rs ss : List Run) → AreApart rs ss → meet should_be_one_run rs ss ≡ false
not_met [] ss a = refl
not_met (r ∷ []) [] a = refl
not_met (r ∷ []) (s ∷ ss) a = a
not_met (r ∷ q ∷ rs) ss a = meet-rest should_be_one_run r q rs ss ∙ not_met (q ∷ rs) ss a

-- maximal runs after others from which they are apart
pub maximal_behind : (rs ss : List Run) → AreMaximalRuns rs → AreMaximalRuns ss → AreRuns (rs ++ ss) → AreApart rs ss → AreMaximalRuns (rs ++ ss)
maximal_behind rs [] a b c d = subst AreMaximalRuns (sym (append-nil rs)) a
maximal_behind rs (s ∷ ss) a b c d =
    maximal-append s.range.first rs (s ∷ ss) a (end_by_next rs (s ∷ ss) c (omega arith)) b (begin_by_first (s ∷ ss) (runs-right rs (s ∷ ss) c)) (not_met rs (s ∷ ss) d)

-- they are apart from the first of them
pub apart_first : (rs ss ts : List Run) → 0 < length ss → AreApart rs (ss ++ ts) → AreApart rs ss
apart_first rs [] ts h a = absurd (omega arith)
apart_first rs (s ∷ ss) ts h a = are_apart rs (s ∷ ss) (sym (meet-append should_be_one_run rs s ss ts) ∙ not_met rs ((s ∷ ss) ++ ts) a)
