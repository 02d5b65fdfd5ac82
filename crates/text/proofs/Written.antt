-- Text written piece by piece. Assumes nothing.
use Rattle.std.proofs.Common.{ℕ, zero, suc, ◌+◌, ◌-◌, ◌≤◌, ◌<◌, ◌≡◌, List, [], ◌++◌, length, take, drop, refl, ap, ◌∙◌, arith, length-append}
use lib.ListN.{length-drop}
use lib.Seq.{take_at, drop_at, take_all, drop-drop}
use Rattle.std.proofs.lemmas.List.{drop_all}
use mathlib.Core.List.{append-nil, append_assoc}
use Rattle.circuit.specs.Tools.{over}
use Rattle.text.specs.Written.{Fits, Wrote}

pub over_length : (x w : List ℕ) → Fits x w → length (over x w) ≡ length w
over_length x w h = simp (length-append, length-drop) (omega arith)

pub wrote_length : (x w after : List ℕ) (n : ℕ) → Fits x w → Wrote x w after n → length after ≡ length w
wrote_length x w after n h p = ap (λ (l : List ℕ). length l) p.memory ∙ over_length x w h

-- nothing is written yet
pub wrote_none : (w : List ℕ) → Wrote [] w w 0
wrote_none w = record { memory = refl; size = refl }

-- Behind the n bytes of x, y is written too: over the first bytes of the rest of the memory, which is lent as a part and comes back.
pub wrote_next : (x y w after rest : List ℕ) (n k : ℕ) → Wrote x w after n → Wrote y (take (length after - n) (drop n after)) rest k
    → Wrote (x ++ y) w (take n after ++ (rest ++ drop (length after - n) (drop n after))) (n + k)
wrote_next x y w after rest n k p q =
    let part : take (length after - n) (drop n after) ≡ drop n after = take_all (length after - n) (drop n after) (omega (arith, length-drop n after)) in
    let behind : drop (length after - n) (drop n after) ≡ [] = drop_all (length after - n) (drop n after) (omega (arith, length-drop n after)) in
    let written : rest ≡ over y (drop n after) = rw part at q.memory in
    record {
      memory = rw (behind, append-nil, written, p.memory, p.size, take_at x (drop (length x) w) (length x) refl, drop_at x (drop (length x) w) (length x) refl, drop-drop, length-append, append_assoc) refl;
      size = rw (length-append, p.size, q.size) refl;
    }

-- by another name of the same text: what was written, and that there is room
pub wrote_as : (x y w after : List ℕ) (n : ℕ) → x ≡ y → Wrote x w after n → Wrote y w after n
wrote_as x y w after n e h = rw e at h

pub fits_as : (x y w : List ℕ) → x ≡ y → Fits y w → Fits x w
fits_as x y w e f = rw e f

-- there is room for the first of two texts, and behind it for the second
pub fits_first : (x y w : List ℕ) → Fits (x ++ y) w → Fits x w
fits_first x y w f = let h : length x + length y ≤ length w = rw length-append at f in omega (arith, h)

pub fits_next : (x y w after : List ℕ) (n : ℕ) → Fits (x ++ y) w → Wrote x w after n → Fits y (take (length after - n) (drop n after))
fits_next x y w after n f p =
    let h : length x + length y ≤ length w = rw length-append at f in
    let l : length after ≡ length w = wrote_length x w after n (fits_first x y w f) p in
    rw (take_all (length after - n) (drop n after) (omega (arith, length-drop n after))) (omega (arith, length-drop n after, p.size, h))

-- ---- texts that grow piece by piece, as a loop writes them: t n has the pieces p 0, p 1, .., p (n - 1)

module _ (t p : ℕ → List ℕ) (more : (n : ℕ) → t (n + 1) ≡ t n ++ p n) where
  grown : (i d : ℕ) → length (t i) ≤ length (t (i + d))
  grown i zero = let e : i + 0 ≡ i = omega arith in rw e (omega arith)
  grown i (suc d) =
      let e : i + suc d ≡ (i + d) + 1 = omega arith in
      rw (e, more (i + d), length-append) (omega (arith, grown i d))

  -- there is room for one piece more, where there is for the whole
  pub piece_fits : (n i at : ℕ) (w after : List ℕ) → Fits (t n) w → i < n → Wrote (t i) w after at → Fits (p i) (take (length after - at) (drop at after))
  piece_fits n i at w after f h q =
      let e : (i + 1) + (n - (i + 1)) ≡ n = omega arith in
      let g : length (t (i + 1)) ≤ length (t n) = rw e at (grown (i + 1) (n - (i + 1))) in
      let a : length (t i) + length (p i) ≤ length (t n) = rw (more i, length-append) at g in
      let l : length after ≡ length w = wrote_length (t i) w after at (omega (arith, f)) q in
      rw (take_all (length after - at) (drop at after) (omega (arith, length-drop at after))) (omega (arith, length-drop at after, q.size, f))

  pub piece_next : (i at k : ℕ) (w after rest : List ℕ) → Wrote (t i) w after at → Wrote (p i) (take (length after - at) (drop at after)) rest k
      → Wrote (t (i + 1)) w (take at after ++ (rest ++ drop (length after - at) (drop at after))) (at + k)
  piece_next i at k w after rest q r = rw (more i) (wrote_next (t i) (p i) w after rest at k q r)
