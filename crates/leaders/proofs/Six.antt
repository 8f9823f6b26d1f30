-- The definitions computed on the table S: six bits, five checks, under weight.
use Rattle.std.proofs.Common.{◌≡◌, ◌+◌, ◌*◌, [], ◌∷◌, map, get_or, refl}
use Rattle.algebra.specs.Rankings.{by_weight}
use Rattle.algebra.specs.Symbols.{bits}
use Rattle.algebra.specs.Digits.{pack, total}
use Rattle.leaders.specs.Schemes.{Scheme}
use Rattle.leaders.specs.Heads.{is_head, heads, sits, sitting, turn, turns_from, turns, words, limit, step, walked_to, walk}
use Rattle.leaders.specs.Leaders.{all_marks, marks, coset, leader_of, is_leader, leaders, leader_number}

abbrev six : Scheme
six = record {
  symbols = bits;
  checks = record {
    n = 6;
    r = 5;
    check = λ i j. get_or (
        1 ∷ 1 ∷ 0 ∷ 0 ∷ 0 ∷
        1 ∷ 0 ∷ 0 ∷ 1 ∷ 0 ∷
        1 ∷ 0 ∷ 0 ∷ 0 ∷ 1 ∷
        0 ∷ 1 ∷ 1 ∷ 0 ∷ 0 ∷
        0 ∷ 0 ∷ 1 ∷ 1 ∷ 0 ∷
        0 ∷ 0 ∷ 0 ∷ 1 ∷ 1 ∷ []) (i * 5 + j) 0;
  };
  ranking = by_weight 6;
}

six_leaders : leaders six ≡ 0 ∷ 1 ∷ 4 ∷ 16 ∷ 64 ∷ 256 ∷ 1024 ∷ 5 ∷ 17 ∷ 65 ∷ 68 ∷ 80 ∷ 272 ∷ 1025 ∷ 1088 ∷ 1280 ∷ []
unfolding all_marks marks coset leader_of is_leader leaders pack total
six_leaders = refl

six_heads : heads six ≡ 20 ∷ 257 ∷ 260 ∷ 320 ∷ 1028 ∷ 1040 ∷ 69 ∷ 81 ∷ 1089 ∷ []
unfolding all_marks marks coset leader_of is_leader is_head heads pack total
six_heads = refl

six_tails : map (leader_of six) (20 ∷ 257 ∷ 260 ∷ 320 ∷ 1028 ∷ 1040 ∷ 69 ∷ 81 ∷ 1089 ∷ []) ≡ 1024 ∷ 68 ∷ 65 ∷ 5 ∷ 16 ∷ 4 ∷ 256 ∷ 1280 ∷ 272 ∷ []
unfolding all_marks marks coset leader_of pack total
six_tails = refl

six_limit : limit six ≡ 1
unfolding all_marks marks words limit pack total
six_limit = refl

six_walk : walk six 257 ≡ 11
unfolding all_marks marks coset leader_of is_leader leaders leader_number step walked_to pack total
six_walk = refl

-- 111111 comes to 321 by the head 20, and to 4 by 257
six_turns : turns six 1365 ≡ 2
unfolding all_marks marks coset leader_of is_leader is_head heads sits sitting turn turns_from turns pack total
six_turns = refl

six_first_turn : turn six 20 1365 ≡ 321
unfolding all_marks marks coset leader_of turn pack total
six_first_turn = refl

six_last_turn : turn six 257 321 ≡ 4
unfolding all_marks marks coset leader_of turn pack total
six_last_turn = refl
