-- Document 01's maps of 'Bench examples' as circuits, and what wrong definitions are tried on (must-fail/): a fact or two for each, computed by antt. P1 to P12 themselves
-- are on bytes, in `demands`. Assumes nothing.
use Rattle.std.specs.Prelude.{ℕ, ◌≡◌, true, false, cond, List, [], ◌∷◌, get_or, eqb}
use Rattle.std.proofs.Math.Option.{none, some}
use Rattle.circuit.specs.declared.Choice.{Choice}
use Rattle.circuit.specs.declared.Choice.TheVariants.{Greedy, Down, Up}
use Rattle.circuit.specs.declared.Ending.TheVariants.{Found, Spent, Stuck}
use Rattle.circuit.specs.declared.Kind.TheVariants.{Input, Not, And, Or, Xor, Voter}
use Rattle.circuit.specs.Circuit.{Circuit}
use Rattle.circuit.specs.Evaluate.{evaluate, mark, differ}
use Rattle.circuit.specs.Survey.{survey, interest_size}
use Rattle.circuit.specs.declared.Entry.{Entry}
use Rattle.circuit.specs.Run.{down_options, entry_turns, stop, run, answer}

-- ---- circuits

abbrev pub pair : ℕ → ℕ → List ℕ
pair x y = x ∷ y ∷ []

abbrev pub one : ℕ → List ℕ
one x = x ∷ []

-- "Adder map (001, figure 1): gates 0, 1, 2 inputs; 3 XOR(0,1); 4 AND(0,1); 5 AND(2,3); 6 XOR(2,3); 7 OR(4,5); code 7 = 1"
unfoldable pub adder : Circuit
adder = record {
  gates = 8;
  kind = λ g. get_or (Input ∷ Input ∷ Input ∷ Xor ∷ And ∷ And ∷ Xor ∷ Or ∷ []) g Input;
  kids = λ g. get_or ([] ∷ [] ∷ [] ∷ pair 0 1 ∷ pair 0 1 ∷ pair 2 3 ∷ pair 2 3 ∷ pair 4 5 ∷ []) g [];
  code = λ g. cond (eqb g 7) (some true) none;
}

abbrev pub A : List ℕ
A = 0 ∷ 0 ∷ 1 ∷ 1 ∷ 0 ∷ 1 ∷ 0 ∷ 1 ∷ []

abbrev pub B : List ℕ
B = 1 ∷ 1 ∷ 1 ∷ 1 ∷ 1 ∷ 0 ∷ 0 ∷ 1 ∷ []

abbrev pub C : List ℕ
C = 0 ∷ 0 ∷ 1 ∷ 0 ∷ 0 ∷ 0 ∷ 0 ∷ 1 ∷ []

-- P9: "0 input, 1 NOT(0), 2 AND(0,1), code 2 = 1, start 0 0 1"
unfoldable pub circuit_p9 : Circuit
circuit_p9 = record {
  gates = 3;
  kind = λ g. get_or (Input ∷ Not ∷ And ∷ []) g Input;
  kids = λ g. get_or ([] ∷ one 0 ∷ pair 0 1 ∷ []) g [];
  code = λ g. cond (eqb g 2) (some true) none;
}

-- P10: "one input, no code, start 1"
unfoldable pub circuit_p10 : Circuit
circuit_p10 = record { gates = 1; kind = λ g. Input; kids = λ g. []; code = λ g. none }

-- P11: "0, 1 inputs, 2 NOT(0), 3 AND(0,2), 4 OR(1,3), code 4 = 1, start 0 0 1 1 1"
unfoldable pub circuit_p11 : Circuit
circuit_p11 = record {
  gates = 5;
  kind = λ g. get_or (Input ∷ Input ∷ Not ∷ And ∷ Or ∷ []) g Input;
  kids = λ g. get_or ([] ∷ [] ∷ one 0 ∷ pair 0 2 ∷ pair 1 3 ∷ []) g [];
  code = λ g. cond (eqb g 4) (some true) none;
}

-- 0, 1 inputs; 2 AND(0,1); 3 NOT(2); code 3 = 1
unfoldable pub nand : Circuit
nand = record {
  gates = 4;
  kind = λ g. get_or (Input ∷ Input ∷ And ∷ Not ∷ []) g Input;
  kids = λ g. get_or ([] ∷ [] ∷ pair 0 1 ∷ one 2 ∷ []) g [];
  code = λ g. cond (eqb g 3) (some true) none;
}

-- 0 input; 1 NOT(0); 2 input; 3 OR(1,2); code 3 = 0: an input's place in a row is not its gate number
unfoldable pub gap : Circuit
gap = record {
  gates = 4;
  kind = λ g. get_or (Input ∷ Not ∷ Input ∷ Or ∷ []) g Input;
  kids = λ g. get_or ([] ∷ one 0 ∷ [] ∷ pair 1 2 ∷ []) g [];
  code = λ g. cond (eqb g 3) (some false) none;
}

-- 0, 1, 2 inputs; 3 NOT(0); 4 NOT(1); 5 NOT(2); codes 3 = 1, 4 = 1, 5 = 1: from all at 1 a front of three
unfoldable pub nots : Circuit
nots = record {
  gates = 6;
  kind = λ g. get_or (Input ∷ Input ∷ Input ∷ Not ∷ Not ∷ Not ∷ []) g Input;
  kids = λ g. get_or ([] ∷ [] ∷ [] ∷ one 0 ∷ one 1 ∷ one 2 ∷ []) g [];
  code = λ g. get_or (none ∷ none ∷ none ∷ some true ∷ some true ∷ some true ∷ []) g none;
}

abbrev pub all_at_one : List ℕ
all_at_one = 1 ∷ 1 ∷ 1 ∷ 1 ∷ 1 ∷ 1 ∷ []

-- 0 input; 1 NOT(0); codes 0 = 0, 1 = 0: no state satisfies it
unfoldable pub clash : Circuit
clash = record {
  gates = 2;
  kind = λ g. get_or (Input ∷ Not ∷ []) g Input;
  kids = λ g. get_or ([] ∷ one 0 ∷ []) g [];
  code = λ g. some false;
}

-- 0, 1, 2 inputs; 3 OR(0,1,2); codes 0 = 0, 3 = 1: of its options the first turns a coded gate
unfoldable pub choice : Circuit
choice = record {
  gates = 4;
  kind = λ g. get_or (Input ∷ Input ∷ Input ∷ Or ∷ []) g Input;
  kids = λ g. get_or ([] ∷ [] ∷ [] ∷ (0 ∷ pair 1 2) ∷ []) g [];
  code = λ g. get_or (some false ∷ none ∷ none ∷ some true ∷ []) g none;
}

-- 0, 1 inputs; 2 AND(0,1); 3 NOT(2); codes 0 = 0, 3 = 0: with gate 2 at 1 its single option turns a coded gate
unfoldable pub inner : Circuit
inner = record {
  gates = 4;
  kind = λ g. get_or (Input ∷ Input ∷ And ∷ Not ∷ []) g Input;
  kids = λ g. get_or ([] ∷ [] ∷ pair 0 1 ∷ one 2 ∷ []) g [];
  code = λ g. get_or (some false ∷ none ∷ none ∷ some false ∷ []) g none;
}

-- 0, 1, 2 inputs; 3 AND(0,1,2); code 3 = 1
unfoldable pub all : Circuit
all = record {
  gates = 4;
  kind = λ g. get_or (Input ∷ Input ∷ Input ∷ And ∷ []) g Input;
  kids = λ g. get_or ([] ∷ [] ∷ [] ∷ (0 ∷ pair 1 2) ∷ []) g [];
  code = λ g. cond (eqb g 3) (some true) none;
}

-- 0, 1, 2 inputs; 3 a voter of 0, 1, 2; code 3 = 1
unfoldable pub vote : Circuit
vote = record {
  gates = 4;
  kind = λ g. get_or (Input ∷ Input ∷ Input ∷ Voter ∷ []) g Input;
  kids = λ g. get_or ([] ∷ [] ∷ [] ∷ (0 ∷ pair 1 2) ∷ []) g [];
  code = λ g. cond (eqb g 3) (some true) none;
}

-- F-5's example: 0, 1, 2 inputs; 3 AND(0,1); 4 NOT(2); 5 NOT(4); 6 NOT(5); 7 OR(3,6); code 7 = 1
unfoldable pub circuit_f5 : Circuit
circuit_f5 = record {
  gates = 8;
  kind = λ g. get_or (Input ∷ Input ∷ Input ∷ And ∷ Not ∷ Not ∷ Not ∷ Or ∷ []) g Input;
  kids = λ g. get_or ([] ∷ [] ∷ [] ∷ pair 0 1 ∷ one 2 ∷ one 4 ∷ one 5 ∷ pair 3 6 ∷ []) g [];
  code = λ g. cond (eqb g 7) (some true) none;
}

abbrev pub D : List ℕ
D = 0 ∷ 0 ∷ 1 ∷ 0 ∷ 0 ∷ 1 ∷ 0 ∷ 1 ∷ []

-- "every draw is 0; "down 3" is kind down with option 3"
abbrev pub entry : Choice → Entry
entry h = record { draw = 0; choice = h }

abbrev pub drawing : ℕ → Entry
drawing d = record { draw = d; choice = Down 0 }

-- ---- the facts

pub record Examples : Type 0 where
  -- A row has a byte per input, by gate number.
  pub by_input_order : evaluate gap (0 ∷ 1 ∷ []) ≡ 0 ∷ 1 ∷ 1 ∷ 1 ∷ []
  -- Mark looks at the codes too: all at 0 obeys every gate of the adder.
  pub marked_code : mark adder (0 ∷ 0 ∷ 0 ∷ 0 ∷ 0 ∷ 0 ∷ 0 ∷ 0 ∷ []) ≡ false
  -- Every gate counts where two configurations differ, inputs and gates outside the cone too: gates 0, 1, 4 and 5.
  pub differing : differ adder A B ≡ 4
  -- P1: an unjustified gate passes the cone on to none, and of an OR at 1 the child at 0 does not count; its descendants are interesting.
  pub front_and_below : survey adder A ≡ 4 ∷ 4 ∷ 1 ∷ 7 ∷ 0 ∷ 1 ∷ 0 ∷ 1 ∷ []
  -- Of an AND at 0 in the cone only the child at 0 counts. None of P1 to P12 would tell if all of them counted.
  pub and_at_zero : survey nand (0 ∷ 1 ∷ 0 ∷ 1 ∷ []) ≡ 1 ∷ 0 ∷ 1 ∷ 1 ∷ []
  -- P9's start: a NOT is interesting like others. F-5: it isn't counted in the size, which is that of gates 0 and 2.
  pub not_below : survey circuit_p9 (0 ∷ 0 ∷ 1 ∷ []) ≡ 4 ∷ 4 ∷ 7 ∷ []
  pub nots_left_out : interest_size circuit_p9 (0 ∷ 0 ∷ 1 ∷ []) ≡ 2
  -- All other kinds are counted: those of the adder but for gate 6, which isn't below gate 7, and a voter.
  pub others_counted : interest_size adder C ≡ 7
  pub voter_counted : interest_size vote (0 ∷ 0 ∷ 0 ∷ 1 ∷ []) ≡ 4
  -- AND at 1 turns its wrong children and no other; XOR has an option for each child.
  pub and_wrong_alone : down_options circuit_p9 (1 ∷ 0 ∷ 1 ∷ []) 2 ≡ one 1 ∷ []
  pub xor_options : down_options adder A 3 ≡ one 0 ∷ one 1 ∷ []
  -- F-3: a voter is 1 when two of its children are, and not when one is; of its children those with its value count.
  pub voter_by_two : evaluate vote (1 ∷ 0 ∷ 1 ∷ []) ≡ 1 ∷ 0 ∷ 1 ∷ 1 ∷ []
  pub voter_by_one : evaluate vote (0 ∷ 1 ∷ 0 ∷ []) ≡ 0 ∷ 1 ∷ 0 ∷ 0 ∷ []
  pub voter_at_one : survey vote (1 ∷ 0 ∷ 1 ∷ 1 ∷ []) ≡ 1 ∷ 0 ∷ 1 ∷ 1 ∷ []
  -- Its options are the pairs in their order, and a pair with a child that is right turns the other alone.
  pub voter_pairs : down_options vote (0 ∷ 0 ∷ 0 ∷ 1 ∷ []) 3 ≡ pair 0 1 ∷ pair 0 2 ∷ pair 1 2 ∷ []
  pub voter_turns_one : down_options vote (0 ∷ 1 ∷ 0 ∷ 1 ∷ []) 3 ≡ one 0 ∷ pair 0 2 ∷ one 2 ∷ []
  -- An option is turned whole.
  pub turns_all_wrong : entry_turns all (0 ∷ 0 ∷ 0 ∷ 1 ∷ []) (entry (Down 0)) ≡ 0 ∷ pair 1 2
  -- A draw of 4 from a front of three: the gate at place 1.
  pub drawn_turns : entry_turns nots all_at_one (drawing 4) ≡ one 1
  -- P7: up on a coded gate acts as down, with its option. P5: on an uncoded gate it turns it.
  pub up_on_coded : entry_turns adder C (entry (Up 1)) ≡ one 5
  pub up_on_uncoded : entry_turns adder A (entry (Up 1)) ≡ one 3
  -- P6: greedy's option is modulo the options that tie: there one alone, and two from A.
  pub greedy_turns : entry_turns adder C (entry (Greedy 1)) ≡ one 4
  pub greedy_ties : entry_turns adder A (entry (Greedy 1)) ≡ one 1
  -- F-5: three NOT gates over an input count less than an AND over two, 1 and 3.
  pub greedy_by_weight : entry_turns circuit_f5 D (entry (Greedy 0)) ≡ one 6
  -- The front is tested before the first move, also where there is no entry (P8).
  pub found_without_entry : run adder B [] ≡ stop Found B
  pub found_at_once : run adder B (entry (Down 0) ∷ []) ≡ stop Found B
  -- P9: each entry works on what the one before left; flips counts the values turned, 2 and then 1.
  pub two_moves :
      run circuit_p9 (0 ∷ 0 ∷ 1 ∷ []) (entry (Down 0) ∷ entry (Down 0) ∷ [])
      ≡ record { outcome = record { ending = Spent 1; moves = 2; flips = 3 }; last = 0 ∷ 1 ∷ 1 ∷ [] }
  -- F-1: numbering and modulo run over the options left, here those of gates 1 and 2; greedy's too.
  pub first_left : entry_turns choice (0 ∷ 0 ∷ 0 ∷ 1 ∷ []) (entry (Down 0)) ≡ one 1
  pub modulo_left : entry_turns choice (0 ∷ 0 ∷ 0 ∷ 1 ∷ []) (entry (Down 3)) ≡ one 2
  pub greedy_left : entry_turns choice (0 ∷ 0 ∷ 0 ∷ 1 ∷ []) (entry (Greedy 3)) ≡ one 2
  -- An option with a coded gate is out whole, and then an uncoded gate is turned itself.
  pub out_whole : entry_turns inner (0 ∷ 0 ∷ 1 ∷ 0 ∷ []) (entry (Down 0)) ≡ one 2
  -- A coded one is stuck, and the entry isn't counted; with the tape used up before it is Spent.
  pub stuck_at_once : run clash (0 ∷ 0 ∷ []) (entry (Up 0) ∷ []) ≡ stop Stuck (0 ∷ 0 ∷ [])
  pub spent_before : run clash (0 ∷ 0 ∷ []) [] ≡ stop (Spent 1) (0 ∷ 0 ∷ [])
  -- P8: the answer is not the configuration, for B breaks gate 3; input 2, at 1 and not in the cone, does not keep its value. P11: input 0, at 0 and not in the cone, is not turned.
  pub answer_is_evaluated : answer adder B ≡ 1 ∷ 1 ∷ 0 ∷ 0 ∷ 1 ∷ 0 ∷ 0 ∷ 1 ∷ []
  pub answer_outside_cone : answer circuit_p11 (0 ∷ 1 ∷ 1 ∷ 0 ∷ 1 ∷ []) ≡ 0 ∷ 1 ∷ 1 ∷ 0 ∷ 1 ∷ []
