-- Dividing space before a token of an accepted text, or behind the last one, may be any other: so the relation is not only that of a text with
-- itself. Assumes nothing.
use mathlib.Core.Path.{◌≡◌, refl, sym, subst, ap, ◌∙◌}
use mathlib.Core.List.{List, [], ◌++◌, append_assoc}
use Prim.Native.Nat.{ℕ, ◌+◌, ◌≤◌}
use native.Mathlib.Omega.{arith}
use lib.ListN.{length, take, drop, drop_of_length-le}
use lib.Seq.{length-take-le, take_at, drop_at}
use Rattle.rules.specs.Rule.{Longest}
use Rattle.rules.specs.Plain.{Matches, between}
use Rattle.rules.proofs.Matches.{forward, longest_same}
use Rattle.rules.proofs.Plain.{plain, none_between, one_between, joined_between, rest_stands, before_is}
use Rattle.lexicon.specs.Space.{sp}
use Rattle.grammar.specs.Tokens.{Tok}
use Rattle.reading.specs.Tokens.{Follow}
use Rattle.layout.specs.Relaid.{Alike, ends, same_byte, same_quotes, stretch, Relaid}
use Rattle.layout.proofs.Cut.{other_way, fails_rest}
use Rattle.layout.proofs.Back.{text_within}
use Rattle.layout.proofs.Path.{sp_full, Step, same, quoted, gap, Path, here, step, Ahead, path_forward, step_grows}
use Rattle.layout.proofs.Carried.{On, gap_on}
use Rattle.layout.proofs.Derivations.{begin, row_there}
use Rattle.layout.proofs.Laid.{way}

module _ (text other : List ℕ) where
  -- what is alike behind a piece is so with it
  with_piece : {i k m n : ℕ} (y : List ℕ) → Step text other i k m n → Alike (drop m text) y → Alike (between text i m ++ drop m text) (between text i m ++ y)
  with_piece y (same {i} x u e) a =
      subst (λ (l : List ℕ). Alike (l ++ drop (i + 1) text) (l ++ y)) (sym (one_between text i x.0)) (same_byte x.1 a)
  with_piece y (quoted t u e) a = same_quotes (plain text t) a
  with_piece {m = m} y (gap t u) a = stretch (plain text t.takes) (fails_rest text m (sp_full t)) (plain text t.takes) a

  -- and with all the pieces before it
  before : {i k p q : ℕ} (y : List ℕ) → Path text other i k p q → Alike (drop p text) y → Alike (drop i text) (between text i p ++ y)
  before y (here {i} {j = p} e f) a =
      other_way (ap (λ (n : ℕ). drop n text) (sym e)) (ap (λ (l : List ℕ). l ++ y) (sym (none_between text i p e))) a
  before {p = p} y (step {i} {m = m} x r) a =
      let g = (step_grows x).0 in
      let h = (path_forward r).0 in
      other_way (sym (rest_stands text i m (omega (arith, g))))
      (sym (append_assoc (between text i m) (between text m p) y) ∙ ap (λ (l : List ℕ). l ++ y) (joined_between text i m p (omega (arith, g)) h))
      (with_piece (between text m p ++ y) x (before y r a))

  -- up to the end
  itself : {i k : ℕ} → Ahead text other i k → Alike (drop i text) (drop i text)
  itself {i} w =
      let e : drop (length text) text ≡ [] = drop_of_length-le text {i = length text} (omega arith) in
      other_way refl (sym (rest_stands text i (length text) (path_forward w).0)) (before (drop (length text) text) w (other_way (sym e) (sym e) ends))

  -- a stretch at a place that pieces lead to
  at_stretch : {s t p k q : ℕ} (b : List ℕ) → On text other s t p k → Longest text sp p q → Matches sp b →
      Alike (drop s text) (between text s p ++ (b ++ drop q text))
  at_stretch {s} {t} {p} {q = q} b o l m =
      let x = gap_on text other s t o l.takes in
      let rest = subst (λ (n : ℕ). Alike (drop n text) (drop n text)) (longest_same x.whole l) (itself x.on.ahead) in
      before (b ++ drop q text) o.back
      (other_way (sym (rest_stands text p q (forward l.takes))) refl (stretch (plain text l.takes) (fails_rest text q (sp_full l)) m rest))

-- ---- in a text that is itself laid out anew

module _ {text : List ℕ} (r : Relaid text text) where
  -- the text up to a place is its front, and what stands behind that
  from_front : {p : ℕ} (y : List ℕ) → r.start ≤ p → take p text ++ y ≡ take r.start text ++ (between text r.start p ++ y)
  from_front {p} y h =
      ap (λ (l : List ℕ). l ++ y) (sym (before_is text p) ∙ sym (joined_between text 0 r.start p (omega arith) h) ∙ ap (λ (l : List ℕ). l ++ between text r.start p) (before_is text r.start))
      ∙ append_assoc (take r.start text) (between text r.start p) y

  pub replaced : {p q : ℕ} {ts : List Tok} (b : List ℕ) → Follow text r.start ts p → Longest text sp p q → Matches sp b → Relaid text (take p text ++ (b ++ drop q text))
  replaced {p} {q} b f l m =
      let s = r.start in
      let o = row_there text text s s (way r) (begin text text s (way r)) f in
      let front : length (take s text) ≡ s = length-take-le s text (text_within r) in
      let y = between text s p ++ (b ++ drop q text) in
      let e = from_front (b ++ drop q text) (path_forward o.2.back).0 in
      record {
        start = s;
        front = r.front;
        same_front = ap (take s) e ∙ take_at (take s text) y s front;
        behind = other_way refl (sym (ap (drop s) e ∙ drop_at (take s text) y s front)) (at_stretch text text b o.2 l m);
      }
