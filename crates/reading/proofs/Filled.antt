-- What stands in memory after one read more. Assumes nothing.
use Rattle.std.proofs.Common.{Option, ◌≡◌, ℕ, ◌+◌, ◌≤◌, List, ◌++◌, length, take, sym, ap, subst, ◌∙◌, le_refl}
use Rattle.std.proofs.lemmas.Slice.{take-put_mid_below}
use Rattle.std.proofs.KnownBytes.{Consumes-trans, Consumes-kept}
use Rattle.std.specs.Io.KnownBytes.{Consumes, Keeps}
use borrow.Rule.Slice.PartMut.{put_mid, post_of}
use lib.Seq.{take-append-le, take-append-add, length-take-le}

module _ (a b c : Option (List ℕ)) (at k : ℕ) (xs ys : List ℕ) where
  -- behind the first `at` bytes stands what a read brought
  front_and_part : (n : ℕ) → at ≤ length xs → n ≤ length ys → take (at + n) (put_mid at k xs ys) ≡ take at xs ++ take n ys
  front_and_part n h l =
      ap (λ (m : ℕ). take (m + n) (put_mid at k xs ys)) (sym (length-take-le at xs h))
      ∙ take-append-add (take at xs) (ys ++ post_of at k xs) n
      ∙ ap (λ (l : List ℕ). take at xs ++ l) (take-append-le n ys (post_of at k xs) l)

  pub read_some : (n : ℕ) → at ≤ length xs → n ≤ length ys → Consumes a b (take at xs) → Consumes b c (take n ys) → Consumes a c (take (at + n) (put_mid at k xs ys))
  read_some n h l p q = subst (Consumes a c) (sym (front_and_part n h l)) (Consumes-trans a b c _ _ p q)

  pub read_none : at ≤ length xs → Consumes a b (take at xs) → Keeps b c → Consumes a c (take at (put_mid at k xs ys))
  read_none h p q = subst (Consumes a c) (sym (take-put_mid_below at k xs ys at (le_refl at) h)) (Consumes-kept a b c _ p q)
