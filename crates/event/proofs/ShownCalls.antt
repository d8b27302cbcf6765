-- The calls that take events: their tests in order, and every buffer after them, by computation. Assumes nothing.
use mathlib.Core.Path.{◌≡◌, refl}
use mathlib.Core.List.{List, [], ◌∷◌, ◌++◌, map}
use Prim.Native.Nat.{ℕ}
use lib.ListN.{replicate}
use lib.IntN.{ℤ, pos}
use Rattle.program.specs.Check.{Verdict}
use Rattle.network.specs.Cells.{write}
use Rattle.network.specs.Network.{fresh, soundness, heard_sound, pending_sound, cell_sound, first_not, lowest_unsound}
use Rattle.event.specs.Event.{Entry}
use Rattle.event.specs.Step.{sensors_of}
use Rattle.event.specs.Calls.{first_refusal, answer_width, flat, room, Result, one_event, run}
use Rattle.event.proofs.ShownOpened.{calling, neg, entry, bytes}

-- the first that is a refusal, whatever its place
first-refusals : map first_refusal ([] ∷ ((0, 0) ∷ (0, 5) ∷ []) ∷ ((0, 0) ∷ (12, 3) ∷ (13, 0) ∷ []) ∷ ((6, 0) ∷ (11, 7) ∷ (12, 3) ∷ []) ∷ []) ≡ (0, 0) ∷ (0, 0) ∷ (12, 3) ∷ (6, 0) ∷ []
unfolding calling
first-refusals = refl

-- "Each answer is two numbers"
answers-flat : (answer_width ≡ 2) × (flat ((pos 0, pos 7) ∷ (pos 15, pos 0) ∷ (pos 17, pos 3) ∷ []) ≡ pos 0 ∷ pos 7 ∷ pos 15 ∷ pos 0 ∷ pos 17 ∷ pos 3 ∷ []) × (flat [] ≡ [])
answers-flat = (refl, refl, refl)

-- "answer space: below two numbers an event: 13"
abbrev event : Entry
event = entry 0x10 (1 ∷ [])

abbrev rooms : List Entry → List Verdict
rooms l = map (λ k. room l (replicate k (pos 9))) (0 ∷ 1 ∷ 2 ∷ 3 ∷ 4 ∷ 5 ∷ 6 ∷ 7 ∷ [])

enough : (rooms [] ≡ replicate 8 (0, 0))
    × (rooms (event ∷ []) ≡ replicate 2 (13, 0) ++ replicate 6 (0, 0))
    × (rooms (event ∷ event ∷ []) ≡ replicate 4 (13, 0) ++ replicate 4 (0, 0))
    × (rooms (event ∷ event ∷ event ∷ []) ≡ replicate 6 (13, 0) ++ replicate 2 (0, 0))
enough = (refl, refl, refl, refl)

-- the program that is the constant 7; a network whose sensors of device 1 are -1, in cell 16; a list whose second field is refused
abbrev seven : List ℕ
seven = bytes 1 (0 ∷ 0 ∷ 0 ∷ 0 ∷ 7 ∷ []) ++ bytes 3 (0 ∷ [])

abbrev unsound : List ℤ
unsound = write fresh ((sensors_of 1, neg 1 ∷ []) ∷ [])

abbrev fires : List ℕ
fires = bytes 0x10 (1 ∷ [])

abbrev broken : List ℕ
broken = fires ++ bytes 0x10 []

abbrev refused : Verdict → List ℤ → List ℤ → Result
refused v n space = record { verdict = v; network = n; space = space }

-- "test them in the order of the refusal table"; "Numbers 1–13 change no buffer". First the program, whatever the others are
program-first : (n : List ℤ) (list : List ℕ) (space : List ℤ) → (run [] n list space ≡ refused (6, 0) n space) × (one_event [] n list space ≡ refused (6, 0) n space)
    × (run (bytes 9 []) n list space ≡ refused (1, 0) n space)
unfolding calling
program-first n list space = (refl, refl, refl)

-- then the network, of a wrong length or by its lowest unsound cell
network-second : (list : List ℕ) (space : List ℤ) → (run seven [] list space ≡ refused (11, 0) [] space) × (one_event seven [] list space ≡ refused (11, 0) [] space)
    × (run seven unsound list space ≡ refused (11, 16) unsound space)
    × (one_event seven unsound list space ≡ refused (11, 16) unsound space)
unfolding calling heard_sound pending_sound cell_sound first_not lowest_unsound soundness
network-second list space = (refl, refl, refl, refl)

-- then the list
module _ (n : List ℤ) (sound : soundness n ≡ (0, 0)) where
  list-third : (space : List ℤ) → (run seven n broken space ≡ refused (12, 1) n space)
      × (run seven n (0x10 ∷ []) space ≡ refused (12, 0) n space)
      × (one_event seven n [] space ≡ refused (12, 0) n space)
      × (one_event seven n (fires ++ fires) space ≡ refused (12, 1) n space)
      × (one_event seven n broken space ≡ refused (12, 1) n space)
      × (one_event seven n (bytes 0x10 [] ++ fires) space ≡ refused (12, 0) n space)
  unfolding calling
  list-third space = rw sound (refl, refl, refl, refl, refl, refl)

  -- then the space
  space-last : (run seven n fires (pos 9 ∷ []) ≡ refused (13, 0) n (pos 9 ∷ []))
      × (run seven n (fires ++ fires) (replicate 3 (pos 9)) ≡ refused (13, 0) n (replicate 3 (pos 9)))
      × (one_event seven n fires [] ≡ refused (13, 0) n [])
      × (one_event seven n fires (pos 9 ∷ []) ≡ refused (13, 0) n (pos 9 ∷ []))
  unfolding calling
  space-last = rw sound (refl, refl, refl, refl)
