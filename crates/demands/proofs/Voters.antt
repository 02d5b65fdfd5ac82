-- Request F-3, on bytes. Assumes nothing.
use Prim.Native.Nat.{ℕ, zero, suc, ◌<◌}
use mathlib.Core.Path.{◌≡◌, refl}
use mathlib.Core.List.{List, [], ◌∷◌}
use mathlib.Core.List.Memᴰ.{head as here}
use mathlib.Core.List.Memᴰ.{tail as there}
use mathlib.Core.List.{Memᴰ as In}
use native.Mathlib.Omega.{arith}
use Rattle.circuit.specs.Tools.{same, pairs}
use Rattle.circuit.specs.declared.Kind.TheVariants.{Voter}
use Rattle.circuit.specs.Gate.{kind_of}
use Rattle.circuit.specs.Circuit.{on}
use Rattle.circuit.specs.Survey.{reasons}
use Rattle.circuit.specs.Run.{down_options}
use Rattle.circuit.proofs.Values.{same_true, same_refl}
use Rattle.circuit.proofs.Lists.{select_in, in_select}
use Rattle.circuit.proofs.Gate.{functions}
use Rattle.circuit.proofs.Survey.{relevant_is}
use Rattle.circuit.proofs.Source001.{down_options_are, pairs_are_set}
use Rattle.map.specs.Map.{gate_count, kind_byte, fan_in, child_at, kids_of, circuit}
use Rattle.map.specs.Check.{kind_test}
use Rattle.map.specs.Inner.{IsMap}
use Rattle.map.proofs.Facts.{facts, well_formed}
use Rattle.map.proofs.Described.{check_number, check_accepts}
use Rattle.kinds.proofs.Fans.{fits_allowed}
use Rattle.demands.specs.Voters.{IsVoter, Voters}
use Rattle.demands.proofs.Demand1.{demand1}
use Rattle.demands.proofs.Demands.{demand2, demand3}
use Rattle.demands.proofs.InnerCodes.{satisfied_never_stuck}

module _ (m : List ℕ) (is : IsMap m) (g : ℕ) (h : g < gate_count m) (e : kind_byte m g ≡ 5) where
  kind : kind_of (kind_byte m g) ≡ Voter
  kind = rw e

  three : fan_in m g ≡ 3
  unfolding kind_test
  three = rw e at (fits_allowed (kind_byte m g) (fan_in m g) (is.kinds g h))

  abbrev children : List ℕ
  children = child_at m g 0 ∷ child_at m g 1 ∷ child_at m g 2 ∷ []

  kids : kids_of m g ≡ children
  unfolding kids_of
  kids = rw three

  pair_in : (i j : ℕ) → i < j → j < 3 → In (child_at m g i ∷ child_at m g j ∷ []) (pairs children)
  pair_in zero (suc zero) l k = here refl
  pair_in zero (suc (suc zero)) l k = there (here refl)
  pair_in (suc zero) (suc (suc zero)) l k = there (there (here refl))
  pair_in zero zero l k = absurd (omega arith)
  pair_in (suc i) zero l k = absurd (omega arith)
  pair_in (suc zero) (suc zero) l k = absurd (omega arith)
  pair_in (suc (suc i)) (suc zero) l k = absurd (omega arith)
  pair_in (suc (suc i)) (suc (suc zero)) l k = absurd (omega arith)
  pair_in i (suc (suc (suc j))) l k = absurd (omega arith)

  is_voter : IsVoter m g
  unfolding reasons down_options
  is_voter = record {
    three = three;
    value = λ s. rw (kind, kids) (functions.voter_is (on s (child_at m g 0)) (on s (child_at m g 1)) (on s (child_at m g 2)));
    relevant = λ s j x. rw (j, kind) (
      λ n. (let (i, q) = select_in (λ y. same (on s y) (on s g)) x (kids_of m g) n in (i, same_true (on s x) (on s g) q)),
      λ p. in_select (λ y. same (on s y) (on s g)) x (kids_of m g) p.0 (rw p.1 (same_refl (on s g))),
    );
    options = λ s u. rw (kind, kids);
    sets = λ s c u i j l k. pairs_are_set (circuit m) (well_formed m is) s c g h u (rw kind) (child_at m g i) (child_at m g j) (rw kids (pair_in i j l k));
  }

pub voters : Voters
voters = record {
  voters = λ m v g h e. is_voter m (facts m v) g h e;
  options = down_options_are;
  relevant = relevant_is;
  number = check_number;
  accepts = check_accepts;
  demand1 = demand1;
  demand2 = demand2;
  demand3 = demand3;
  never_stuck = satisfied_never_stuck;
}
