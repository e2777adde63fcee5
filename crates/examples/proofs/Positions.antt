-- Line and column of the places of the table, each by a test that computes. Assumes nothing.
use mathlib.Core.Path.{◌≡◌, refl, subst}
use mathlib.Core.Logic.{⊎_elim}
use mathlib.Core.Bool.{Bool, true, false, ◌&&◌, ◌||◌}
use mathlib.Core.List.{List}
use Prim.Native.Nat.{ℕ, zero, suc, min, ◌+◌, ◌≤◌, ◌<◌}
use native.Mathlib.Omega.{arith}
use borrow.Author.Tests.{eqb-true, ltb-true, leb-true}
use lib.Dec.{eqb, ltb, leb}
use lib.ListN.{length}
use Rattle.rules.specs.Class.{has}
use Rattle.rules.specs.Rule.{Takes}
use Rattle.rules.proofs.Bools.{and_left, and_right, or_cases}
use Rattle.rules.proofs.Matches.{byte_end}
use Rattle.rules.proofs.Tests.{refuted}
use Rattle.lexicon.specs.Utf8.{sequence}
use Rattle.decisions.proofs.Tests.{below}
use Rattle.decisions.proofs.Cuts.{reaches, takes, leads, cut, begins, none_begins_lem}
use Rattle.values.specs.Position.{feed, Lines, first, next, same, Character, encoded, single, Characters, none, more, Position, stands}
use Rattle.values.proofs.Position.{one_character, character_grows}
use Rattle.examples.specs.Positions.{Positions}

module _ (text : List ℕ) where
  -- ---- the line: so many bytes from i on, which is in line l that begins at b, the line is m and begins at c

  abbrev runs : ℕ → ℕ → ℕ → ℕ → ℕ → ℕ → Bool
  runs zero i l b m c = eqb l m && eqb b c
  runs (suc n) i l b m c = elim (reaches text feed i (suc i)) [ true ↦ runs n (suc i) (suc l) (suc i) m c | false ↦ runs n (suc i) l b m c ]

  ran : (n i l b m c : ℕ) → i + n ≤ length text → runs n i l b m c ≡ true → Lines text i l b → Lines text (i + n) m c
  ran zero i l b m c h e x =
      subst (λ (y : ℕ). Lines text y m c) (omega arith) (subst (Lines text i m) (eqb-true b c (and_right (eqb l m) (eqb b c) e)) (subst (λ (y : ℕ). Lines text i y b) (eqb-true l m (and_left (eqb l m) (eqb b c) e)) x))
  ran (suc n) i l b m c h e x =
      subst (λ (y : ℕ). Lines text y m c) (omega arith) (go (reaches text feed i (suc i)) refl e (λ k d f y. ran n (suc i) k d m c (omega (arith, h)) f y))
    where
      go : (o : Bool) → reaches text feed i (suc i) ≡ o →
          elim o [ true ↦ runs n (suc i) (suc l) (suc i) m c | false ↦ runs n (suc i) l b m c ] ≡ true →
          ((k d : ℕ) → runs n (suc i) k d m c ≡ true → Lines text (suc i) k d → Lines text (suc i + n) m c) → Lines text (suc i + n) m c
      go true q e on = on (suc l) (suc i) e (next x ((takes text feed i (suc i)).true_holds q))
      go false q e on =
          on l b e (same x (omega (arith, h)) (record { none = λ {k} t. refuted (takes text feed i (suc i)) q (subst (λ (y : ℕ). Takes text feed i y) (omega (arith, byte_end t)) t) }))

  -- ---- the column: n characters from i on lead to r

  abbrev walks : ℕ → ℕ → ℕ → Bool
  walks zero i r = eqb i r
  walks (suc n) i r =
      elim (begins text sequence i) [ true ↦ leads text sequence i (λ m. walks n m r) | false ↦ ltb i (length text) && walks n (suc i) r ]

  walked : (n i r b k : ℕ) → walks n i r ≡ true → Characters text b i k → Characters text b r (k + n)
  walked zero i r b k e x = subst (Characters text b r) (omega arith) (subst (λ (y : ℕ). Characters text b y k) (eqb-true i r e) x)
  walked (suc n) i r b k e x =
      subst (Characters text b r) (omega arith) (go (begins text sequence i) refl e (λ m f c. walked n m r b (suc k) f (more x c)))
    where
      go : (o : Bool) → begins text sequence i ≡ o →
          elim o [ true ↦ leads text sequence i (λ m. walks n m r) | false ↦ ltb i (length text) && walks n (suc i) r ] ≡ true →
          ((m : ℕ) → walks n m r ≡ true → Character text i m → Characters text b r (suc k + n)) → Characters text b r (suc k + n)
      go true q e on =
          let y = (cut text sequence i (λ m. walks n m r) (λ m. walks n m r ≡ true) (λ m t. record { true_holds = λ f. f; holds_true = λ f. f })).true_holds e in
          on y.0 y.2 (encoded y.1)
      go false q e on =
          on (suc i) (and_right (ltb i (length text)) (walks n (suc i) r) e)
          (single (ltb-true i (length text) (and_left (ltb i (length text)) (walks n (suc i) r) e)) (none_begins_lem text q))

  -- the end is reached, or is inside of the next character
  abbrev ends : ℕ → ℕ → Bool
  ends r end = eqb r end || leads text sequence r (λ m. ltb end m)

  ended : (r end : ℕ) {j : ℕ} → ends r end ≡ true → Character text r j → end < j
  ended r end e c =
      ⊎_elim (λ q. omega (arith, eqb-true r end q, character_grows text c))
      (λ q.
      let x = (cut text sequence r (λ m. ltb end m) (λ m. end < m) (λ m _. below end m)).true_holds q in
      omega (arith, x.2, one_character text (encoded x.1) c)) (or_cases (eqb r end) (leads text sequence r (λ m. ltb end m)) e)

  -- n characters lead from the line's begin b to r
  found : (p l b r n : ℕ) →
      runs (min p (length text)) 0 1 0 l b ≡ true → walks n b r ≡ true → leb r (min p (length text)) ≡ true → ends r (min p (length text)) ≡ true →
      Position text p l (suc n)
  found p l b r n e f g h =
      stands {n = n} refl (subst (λ (y : ℕ). Lines text y l b) (omega arith) (ran (min p (length text)) 0 1 0 l b (omega arith) e first))
      (record {
        reached = r;
        characters = subst (Characters text b r) (omega arith) (walked n b r b 0 f none);
        within = leb-true r (min p (length text)) g;
        last = λ c. ended r (min p (length text)) h c;
      })

pub all_positions : Positions
unfolding has
all_positions =
    record {
      no_byte = found _ _ _ 0 0 _ refl refl refl refl;
      first_line = found _ _ _ 0 1 _ refl refl refl refl;
      at_the_feed = found _ _ _ 0 2 _ refl refl refl refl;
      behind_the_feed = found _ _ _ 3 3 _ refl refl refl refl;
      at_the_end = found _ _ _ 3 5 _ refl refl refl refl;
      beyond_the_end = found _ _ _ 3 5 _ refl refl refl refl;
      behind_the_last_feed = found _ _ _ 3 3 _ refl refl refl refl;
      carriage_return = found _ _ _ 0 1 _ refl refl refl refl;
      carriage_return_alone = found _ _ _ 2 3 _ refl refl refl refl;
      before_it = found _ _ _ 0 0 _ refl refl refl refl;
      inside_of_it = found _ _ _ 0 0 _ refl refl refl refl;
      behind_it = found _ _ _ 0 2 _ refl refl refl refl;
      cut_off = found _ _ _ 0 3 _ refl refl refl refl;
      by_itself = found _ _ _ 3 4 _ refl refl refl refl;
    }
