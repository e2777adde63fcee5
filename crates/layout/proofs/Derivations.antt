-- A text laid out anew has the derivation of the text, with its spans moved to the places that stand for them. Assumes nothing.
use mathlib.Core.Path.{◌≡◌, refl, sym, subst, ap, ◌∙◌}
use mathlib.Core.List.{List, [], ◌∷◌, ◌++◌, map}
use Prim.Native.Nat.{ℕ, ◌≤◌}
use Rattle.lexicon.specs.declared.Token as Token
use Rattle.lexicon.specs.declared.Next.TheVariants as Next
use Rattle.lexicon.specs.Front.{Front}
use Rattle.lexicon.specs.Token.{Comes, Bad}
use Rattle.lexicon.proofs.Determined.{one_front}
use Rattle.grammar.specs.Tokens.{Class, Tok, tok, class_kind}
use Rattle.grammar.specs.Tree.{Value}
use Rattle.grammar.specs.Yield.{yield_value}
use Rattle.grammar.specs.Level.{Level}
use Rattle.grammar.proofs.Moved.{move_tok, move, tokens_moved, keeps_moved}
use Rattle.reading.specs.declared.Limits.{Limits}
use Rattle.reading.specs.Tokens.{Follow, nothing, next, seen, opened}
use Rattle.reading.specs.Derived.{allowed, Derived}
use Rattle.form.specs.Spellable.{classes}
use Rattle.form.proofs.Deep.{Shallow, shallow_opened, opened_shallow}
use Rattle.layout.proofs.Path.{Ahead, here, turned, place_of, place_is}
use Rattle.layout.proofs.Carried.{On, turn_on}
use Rattle.layout.proofs.Values.{bad_on}
use Rattle.layout.proofs.Tokens.{There, comes_on, end_on}

module _ (text other : List ℕ) (s t : ℕ) (way : Ahead text other s t) where
  -- where a place of the text is in the other
  abbrev pub to : ℕ → ℕ
  to = place_of way

  pub to_is : {i k : ℕ} → On text other s t i k → to i ≡ k
  to_is o = place_is way o.back

  there_seen : (u : Token.Token) {k : ℕ} (x : There text other s t u k) → tok (class_kind u.kind) (record { first = x.first; end = x.end }) ≡ move_tok to (seen u)
  there_seen u x = cc (to_is x.first_on, to_is x.end_on)

  -- a row of tokens is the row of those that stand for them
  pub row_there : {i j k : ℕ} {ts : List Tok} → On text other s t i k → Follow text i ts j → (l : ℕ) × Follow other k (map (move_tok to) ts) l × On text other s t j l
  row_there {k = k} o nothing = (k, nothing, o)
  row_there {k = k} o (next {t = u} {ts = ts} c f) =
      let x = comes_on text other s t o c in
      let y = row_there x.end_on f in
      (y.0, subst (λ (w : Tok). Follow other k (w ∷ map (move_tok to) ts) y.0) (there_seen u x) (next x.comes y.1), y.2)

-- the classes are the same
classes_moved : (g : ℕ → ℕ) (ts : List Tok) → classes (map (move_tok g) ts) ≡ classes ts
classes_moved g [] = refl
classes_moved g (w ∷ ts) = ap (λ (l : List Class). w.class ∷ l) (classes_moved g ts)

-- the way begins behind the front
pub begin : (text other : List ℕ) (s : ℕ) → Ahead text other s s → On text other s s s s
begin text other s way = record { back = here refl refl; ahead = way }

module _ (text : List ℕ) (s : ℕ) (front : Front text s) (limits : Limits) (l : Level) (v : Value) (d : Derived limits l text v) where
  -- a text has one front
  same_start : d.start ≡ s
  same_start = one_front text d.front front

  pub row : Follow text s (yield_value v []) d.end
  row = subst (λ (x : ℕ). Follow text x (yield_value v []) d.end) same_start d.row

module _ (text other : List ℕ) (s : ℕ) (way : Ahead text other s s) (front : Front text s) (there : Front other s) (limits : Limits) (l : Level) (v : Value)
    (d : Derived limits l text v) where
  abbrev g : ℕ → ℕ
  g = to text other s s way

  moved_sound : {before : List Tok} {p : ℕ} {u : Token.Token} → Follow other s before p → Comes other p (Next.Token u) → Bad other u.kind u.first u.end → ⊥
  moved_sound {before} {u = u} f c b =
      let y = row_there other text s s (turned way) (turn_on (begin text other s way)) f in
      let x = comes_on other text s s y.2 c in
      d.sound (subst (λ (n : ℕ). Follow text n (map (move_tok (to other text s s (turned way))) before) y.0) (sym (same_start text s front limits l v d)) y.1) x.comes
      (bad_on other text s s u.kind x.first_on x.end_on b)

  moved_shallow : (before behind : List Tok) → before ++ behind ≡ yield_value (move g v) [] → opened before ≤ limits.depth
  moved_shallow before behind e =
      let a = opened_shallow limits.depth [] (yield_value v []) d.shallow in
      shallow_opened limits.depth 0 before behind
      (subst (Shallow limits.depth 0) (sym (classes_moved g (yield_value v [])) ∙ ap classes (sym (tokens_moved g v) ∙ sym e)) a)

  pub derived_there : Derived limits l other (move g v)
  derived_there =
      let y = row_there text other s s way (begin text other s way) (row text s front limits l v d) in
      record {
        of_level = keeps_moved g (allowed limits l) v ∙ d.of_level;
        start = s;
        front = there;
        end = y.0;
        row = subst (λ (r : List Tok). Follow other s r y.0) (sym (tokens_moved g v)) y.1;
        at_end = end_on text other s s y.2 d.at_end;
        sound = λ f c b. moved_sound f c b;
        shallow = moved_shallow;
      }
