-- The plain form opens no more brackets at once than the text did. Assumes nothing.
use mathlib.Core.Path.{◌≡◌, refl, subst, ◌∙◌}
use mathlib.Core.List.{List, [], ◌∷◌, ◌++◌, append_assoc}
use Prim.Native.Nat.{ℕ, suc, ◌≤◌}
use native.Mathlib.Omega.{arith}
use Rattle.lexicon.specs.declared.Bound.TheVariants.{Open}
use Rattle.grammar.specs.Tokens
use Rattle.grammar.specs.Tokens.{Span, Class, Tok, tok, Wording, Spelling, spelled, quoted, word, code_point_of, names}
use Rattle.grammar.specs.Tree
use Rattle.grammar.specs.Tree.{Names, one_name, more_names, PlainName, text_name, nesting_name, Name, plain_name, bare_name, Arrow, rightward, leftward, Joiner, Measure, Count, number, truth, Between, two_dots, star_sign, Style, Value, Plain, Item, Row, Listing, Attributes, Bounds}
use Rattle.grammar.specs.Yield.{arrow_mark, joiner_mark, between_mark, side_bound, yield_names, yield_plain_name, yield_name, yield_count, yield_value, yield_plain, yield_item, yield_row, yield_listing, yield_attributes, yield_bounds}
use Rattle.grammar.specs.Yield as Yield
use Rattle.reading.specs.Tokens.{open_behind, open_from, opened}
use Rattle.reading.proofs.At.{open_from_one}
use Rattle.form.specs.Spell.{Spelt, sign, comma, either, joiner, spell_text, spell_wording, spell_names, spell_plain_name, spell_name, spell_count, after_one, spell, spell_plain, spell_item, spell_row, spell_listing, spell_attributes, spell_bounds}
use Rattle.form.specs.Spellable.{classes}
use Rattle.form.proofs.Classes.{spelt_classes}

module _ (d : ℕ) where
  -- behind every beginning, from n open brackets on, no more than d stand open
  abbrev pub Shallow : ℕ → List Class → Type 0
  Shallow n [] = n ≤ d
  Shallow n (c ∷ cs) = (n ≤ d) × Shallow (open_behind c n) cs

  now : {n : ℕ} (cs : List Class) → Shallow n cs → n ≤ d
  now [] h = h
  now (c ∷ cs) h = h.0

  -- ---- and back to the tokens

  pub shallow_opened : (n : ℕ) (before behind : List Tok) → Shallow n (classes (before ++ behind)) → open_from n before ≤ d
  shallow_opened n [] behind h = now (classes behind) h
  shallow_opened n (t ∷ before) behind h = shallow_opened (open_behind t.class n) before behind h.1

  pub opened_shallow : (xs ts : List Tok) → ((before behind : List Tok) → before ++ behind ≡ xs ++ ts → opened before ≤ d) → Shallow (opened xs) (classes ts)
  opened_shallow xs [] f = f xs [] refl
  opened_shallow xs (t ∷ ts) f = (
    f xs (t ∷ ts) refl,
    subst (λ (n : ℕ). Shallow n (classes ts)) (open_from_one 0 xs t) (opened_shallow (xs ++ (t ∷ [])) ts (λ b c e. f b c (e ∙ append_assoc xs (t ∷ []) ts))),
  )

  module _ (bytes : List ℕ) where
    -- what the tree's tokens leave, and what those of the plain form add from no more open brackets on
    record Goes (n : ℕ) (r : List Tok) (g : List Spelt → List Spelt) : Type 0 where
      rest : Shallow n (classes r)
      spelt : (m : ℕ) (q : List Spelt) → m ≤ n → Shallow m (spelt_classes q) → Shallow m (spelt_classes (g q))

    -- ---- names

    text_deep : (x : Spelling) (s : Span) (n : ℕ) (r : List Tok) → n ≤ d → Shallow n (classes r) → Goes n r (λ q. spell_text bytes x s q)
    text_deep quoted s n r h k = record { rest = k; spelt = λ m q e y. (omega (arith, e, h), y) }
    text_deep word s n r h k = record { rest = k; spelt = λ m q e y. (omega (arith, e, h), y) }
    text_deep code_point_of s n r h k = record { rest = k; spelt = λ m q e y. (omega (arith, e, h), y) }

    wording_deep : (x : Wording) (s : Span) (n : ℕ) (r : List Tok) → n ≤ d → Shallow n (classes r) → Goes n r (λ q. spell_wording bytes x s q)
    wording_deep (spelled x) s n r h k = text_deep x s n r h k
    wording_deep (Tokens.head_word x) s n r h k = record { rest = k; spelt = λ m q e y. (omega (arith, e, h), y) }

    names_deep : (x : Names) (n : ℕ) (r : List Tok) → Shallow n (classes (yield_names x r)) → Goes n r (λ q. spell_names bytes x q)
    names_deep (one_name s w t) n r h =
        let a = wording_deep w t n r h.0 h.1.1 in
        record { rest = a.rest; spelt = λ m q e y. (omega (arith, e, h.0), a.spelt m q e y) }
    names_deep (more_names x s w t) n r h =
        let b = names_deep x n (tok names s ∷ tok (Tokens.text w) t ∷ r) h in
        let a = wording_deep w t n r b.rest.0 b.rest.1.1 in
        record { rest = a.rest; spelt = λ m q e y. b.spelt m _ e (omega (arith, e, b.rest.0), a.spelt m q e y) }

    plain_name_deep : (x : PlainName) (n : ℕ) (r : List Tok) → Shallow n (classes (yield_plain_name x r)) → Goes n r (λ q. spell_plain_name bytes x q)
    plain_name_deep (text_name w s) n r h = text_deep w s n r h.0 h.1
    plain_name_deep (nesting_name x) n r h = names_deep x n r h

    name_deep : (x : Name) (n : ℕ) (r : List Tok) → Shallow n (classes (yield_name x r)) → Goes n r (λ q. spell_name bytes x q)
    name_deep (plain_name x) n r h = plain_name_deep x n r h
    name_deep (bare_name w s) n r h = record { rest = h.1; spelt = λ m q e y. (omega (arith, e, h.0), y) }

    count_deep : {u : Measure} (c : Count u) (n : ℕ) (r : List Tok) → Shallow n (classes (yield_count c r)) → Goes n r (λ q. spell_count bytes c q)
    count_deep (number s) n r h = record { rest = h.1; spelt = λ m q e y. (omega (arith, e, h.0), y) }
    count_deep (truth b s) n r h = record { rest = h.1; spelt = λ m q e y. (omega (arith, e, h.0), y) }

    -- ---- signs between two values

    past_arrow : (a : Arrow) (k : Span) (n : ℕ) (r : List Tok) → Shallow n (classes (Yield.sign (arrow_mark a) k r)) → Shallow n (classes r)
    past_arrow rightward k n r h = h.1
    past_arrow leftward k n r h = h.1

    past_joiner : (j : Joiner) (k : Span) (n : ℕ) (r : List Tok) → Shallow n (classes (Yield.sign (joiner_mark j) k r)) → Shallow n (classes r)
    past_joiner Tree.colon k n r h = h.1
    past_joiner (Tree.arrow a) k n r h = past_arrow a k n r h

    past_between : (b : Between) (k : Span) (n : ℕ) (r : List Tok) → Shallow n (classes (Yield.sign (between_mark b) k r)) → Shallow n (classes r)
    past_between two_dots k n r h = h.1
    past_between (star_sign x y) k n r h = h.1

    by_between : (b : Between) (m : ℕ) (q : List Spelt) → m ≤ d → Shallow m (spelt_classes q) → Shallow m (spelt_classes (sign (between_mark b) q))
    by_between two_dots m q e h = (e, h)
    by_between (star_sign x y) m q e h = (e, h)

    abbrev Adds : ℕ → (List Spelt → List Spelt) → Type 0
    Adds n g = (m : ℕ) (q : List Spelt) → m ≤ n → Shallow m (spelt_classes q) → Shallow m (spelt_classes (g q))

    either_deep : (a : Arrow) (n : ℕ) (f g : List Spelt → List Spelt) → n ≤ d → Adds n f → Adds n g → Adds n (λ q. either a f g q)
    either_deep rightward n f g h x y m q e z = x m _ e (omega (arith, e, h), y m q e z)
    either_deep leftward n f g h x y m q e z = y m _ e (omega (arith, e, h), x m q e z)

    joiner_deep : (j : Joiner) (n : ℕ) (f g : List Spelt → List Spelt) → n ≤ d → Adds n f → Adds n g → Adds n (λ q. joiner j f g q)
    joiner_deep Tree.colon n f g h x y m q e z = x m _ e (omega (arith, e, h), y m q e z)
    joiner_deep (Tree.arrow a) n f g h x y m q e z = either_deep a n f g h x y m q e z

    after_deep : {f s : Style} (o : Row f s) (m : ℕ) (q : List Spelt) → Shallow m (spelt_classes q) → Shallow m (spelt_classes (after_one o q))
    after_deep (Tree.row_first i c) m q h = (now (spelt_classes q) h, h)
    after_deep (Tree.row_led b i c) m q h = (now (spelt_classes q) h, h)
    after_deep (Tree.row_next o i c) m q h = h

    -- ---- values

    mutual
      value_deep : (v : Value) (n : ℕ) (r : List Tok) → Shallow n (classes (yield_value v r)) → Goes n r (λ q. spell bytes v q)
      value_deep (Tree.plain p) n r h = plain_deep p n r h
      value_deep (Tree.bare x s) n r h = record { rest = h.1; spelt = λ m q e y. (omega (arith, e, h.0), y) }

      plain_deep : (p : Plain) (n : ℕ) (r : List Tok) → Shallow n (classes (yield_plain p r)) → Goes n r (λ q. spell_plain bytes p q)
      plain_deep (Tree.literal a s) n r h = record { rest = h.1; spelt = λ m q e y. (omega (arith, e, h.0), y) }
      plain_deep (Tree.text w s) n r h = text_deep w s n r h.0 h.1
      plain_deep (Tree.nesting x) n r h = names_deep x n r h
      plain_deep (Tree.group o v c) n r h =
          let a = value_deep v (suc n) (Yield.sign Tokens.round_close c r) h.1 in
          record { rest = a.rest.1; spelt = λ m q e y. a.spelt m q (omega (arith, e)) y }
      plain_deep (Tree.pair o p k v c) n r h =
          let a = plain_deep p (suc n) (Yield.sign Tokens.colon k (yield_value v (Yield.sign Tokens.round_close c r))) h.1 in
          let b = value_deep v (suc n) (Yield.sign Tokens.round_close c r) a.rest.1 in
          record {
            rest = b.rest.1;
            spelt = λ m q e y. (
              omega (arith, e, h.0),
              a.spelt (suc m) _ (omega (arith, e))
                  (omega (arith, e, b.rest.0), b.spelt (suc m) _ (omega (arith, e)) (omega (arith, e, b.rest.0), y)),
            );
          }
      plain_deep (Tree.arrowed o v x k w c) n r h =
          let a = value_deep v (suc n) (Yield.sign (arrow_mark x) k (yield_value w (Yield.sign Tokens.round_close c r))) h.1 in
          let b = value_deep w (suc n) (Yield.sign Tokens.round_close c r)
          (past_arrow x k (suc n) (yield_value w (Yield.sign Tokens.round_close c r)) a.rest) in
          record {
            rest = b.rest.1;
            spelt = λ m q e y. (
              omega (arith, e, h.0),
              either_deep x (suc n) (λ z. spell bytes v z) (λ z. spell bytes w z) b.rest.0 a.spelt
                  b.spelt (suc m) (sign Tokens.round_close q) (omega (arith, e)) (omega (arith, e, b.rest.0), y),
            );
          }
      plain_deep (Tree.tuple o l c) n r h =
          let a = attributes_deep l (suc n) (Yield.sign Tokens.round_close c r) h.1 in
          record {
            rest = a.rest.1;
            spelt = λ m q e y. (
              omega (arith, e, h.0),
              a.spelt (suc m) (sign Tokens.round_close q) (omega (arith, e))
                  (omega (arith, e, a.rest.0), y),
            );
          }
      plain_deep (Tree.lot o l c) n r h =
          let a = listing_deep l (suc n) (Yield.sign Tokens.curly_close c r) h.1 in
          record {
            rest = a.rest.1;
            spelt = λ m q e y. (
              omega (arith, e, h.0),
              a.spelt (suc m) (sign Tokens.curly_close q) (omega (arith, e))
                  (omega (arith, e, a.rest.0), y),
            );
          }
      plain_deep (Tree.counted o x s k b l e c) n r h =
          let a = listing_deep l (suc (suc n)) (Yield.sign Tokens.curly_close e (Yield.sign Tokens.round_close c r)) h.1.1.1.1 in
          record {
            rest = a.rest.1.1;
            spelt = λ m q i y. (
              omega (arith, i, h.0),
              (
                omega (arith, i, h.1.0),
                (
                  omega (arith, i, h.1.0),
                  (
                    omega (arith, i, h.1.0),
                    a.spelt (suc (suc m)) (sign Tokens.curly_close (sign Tokens.round_close q)) (omega (arith, i))
                        (omega (arith, i, a.rest.0), (omega (arith, i, h.1.0), y)),
                  ),
                ),
              ),
            );
          }
      plain_deep (Tree.interval o b c) n r h =
          let a = bounds_deep b (suc n) (Yield.sign Tokens.square_close c r) h.1 in
          record {
            rest = a.rest.1;
            spelt = λ m q e y. (
              omega (arith, e, h.0),
              a.spelt (suc m) (sign Tokens.square_close q) (omega (arith, e))
                  (omega (arith, e, a.rest.0), y),
            );
          }

      item_deep : {s : Style} (i : Item s) (n : ℕ) (r : List Tok) → Shallow n (classes (yield_item i r)) → Goes n r (λ q. spell_item bytes i q)
      item_deep (Tree.alone v) n r h = value_deep v n r h
      item_deep (Tree.open_named x k v) n r h =
          let a = plain_name_deep x n (Yield.sign Tokens.colon k (yield_value v r)) h in
          let b = value_deep v n r a.rest.1 in
          record { rest = b.rest; spelt = λ m q e y. a.spelt m _ e (omega (arith, e, a.rest.0), b.spelt m q e y) }
      item_deep (Tree.named x k v) n r h =
          let a = name_deep x n (Yield.sign Tokens.colon k (yield_value v r)) h in
          let b = value_deep v n r a.rest.1 in
          record { rest = b.rest; spelt = λ m q e y. a.spelt m _ e (omega (arith, e, a.rest.0), b.spelt m q e y) }
      item_deep (Tree.joined v j k w) n r h =
          let a = value_deep v n (Yield.sign (joiner_mark j) k (yield_value w r)) h in
          let b = value_deep w n r (past_joiner j k n (yield_value w r) a.rest) in
          record { rest = b.rest; spelt = joiner_deep j n (λ z. spell bytes v z) (λ z. spell bytes w z) (now (classes r) b.rest) a.spelt b.spelt }
      item_deep (Tree.times v k c) n r h =
          let a = value_deep v n (Yield.sign Tokens.colon k (yield_count c r)) h in
          let b = count_deep c n r a.rest.1 in
          record { rest = b.rest; spelt = λ m q e y. a.spelt m _ e (omega (arith, e, a.rest.0), b.spelt m q e y) }

      row_deep : {f s : Style} (o : Row f s) (n : ℕ) (r : List Tok) → Shallow n (classes (yield_row o r)) → Goes n r (λ q. spell_row bytes o q)
      row_deep (Tree.row_first i c) n r h =
          let a = item_deep i n (Yield.sign Tokens.comma c r) h in
          record { rest = a.rest.1; spelt = a.spelt }
      row_deep (Tree.row_led b i c) n r h =
          let a = item_deep i n (Yield.sign Tokens.comma c r) h.1 in
          record { rest = a.rest.1; spelt = a.spelt }
      row_deep (Tree.row_next o i c) n r h =
          let a = row_deep o n (yield_item i (Yield.sign Tokens.comma c r)) h in
          let b = item_deep i n (Yield.sign Tokens.comma c r) a.rest in
          record { rest = b.rest.1; spelt = λ m q e y. a.spelt m _ e (omega (arith, e, b.rest.0), b.spelt m q e y) }

      listing_deep : {s : Style} (l : Listing s) (n : ℕ) (r : List Tok) → Shallow n (classes (yield_listing l r)) → Goes n r (λ q. spell_listing bytes l q)
      listing_deep Tree.no_item n r h = record { rest = h; spelt = λ m q e y. y }
      listing_deep (Tree.one_comma c) n r h = record { rest = h.1; spelt = λ m q e y. y }
      listing_deep (Tree.two_commas c x) n r h = record { rest = h.1.1; spelt = λ m q e y. y }
      listing_deep (Tree.one_item i) n r h = item_deep i n r h
      listing_deep (Tree.led_item c i) n r h = item_deep i n r h.1
      listing_deep (Tree.trailing o) n r h = row_deep o n r h
      listing_deep (Tree.last_item o i) n r h =
          let a = row_deep o n (yield_item i r) h in
          let b = item_deep i n r a.rest in
          record { rest = b.rest; spelt = λ m q e y. a.spelt m _ e (omega (arith, e, now (classes r) b.rest), b.spelt m q e y) }

      attributes_deep : (l : Attributes) (n : ℕ) (r : List Tok) → Shallow n (classes (yield_attributes l r)) → Goes n r (λ q. spell_attributes bytes l q)
      attributes_deep Tree.no_attribute n r h = record { rest = h; spelt = λ m q e y. y }
      attributes_deep (Tree.led_attribute c i) n r h =
          let a = item_deep i n r h.1 in
          record { rest = a.rest; spelt = λ m q e y. a.spelt m (comma q) e (omega (arith, e, h.0), y) }
      attributes_deep (Tree.trailing_comma o) n r h =
          let a = row_deep o n r h in
          record { rest = a.rest; spelt = λ m q e y. a.spelt m (after_one o q) e (after_deep o m q y) }
      attributes_deep (Tree.last_attribute o i) n r h =
          let a = row_deep o n (yield_item i r) h in
          let b = item_deep i n r a.rest in
          record { rest = b.rest; spelt = λ m q e y. a.spelt m _ e (omega (arith, e, now (classes r) b.rest), b.spelt m q e y) }

      bounds_deep : (b : Bounds) (n : ℕ) (r : List Tok) → Shallow n (classes (yield_bounds b r)) → Goes n r (λ q. spell_bounds bytes b q)
      bounds_deep Tree.empty n r h = record { rest = h; spelt = λ m q e y. y }
      bounds_deep (Tree.single v) n r h = value_deep v n r h
      bounds_deep (Tree.between v x k w) n r h =
          let a = value_deep v n (Yield.sign (between_mark x) k (yield_value w r)) h in
          let b = value_deep w n r (past_between x k n (yield_value w r) a.rest) in
          record {
            rest = b.rest;
            spelt = λ m q e y. a.spelt m _ e
                (by_between x m (spell bytes w q) (omega (arith, e, now (classes r) b.rest)) (b.spelt m q e y));
          }
      bounds_deep (Tree.from v x k) n r h =
          let a = value_deep v n (Yield.sign (Tokens.star (side_bound x) Open) k r) h in
          record { rest = a.rest.1; spelt = λ m q e y. a.spelt m _ e (omega (arith, e, a.rest.0), y) }
      bounds_deep (Tree.up_to x k v) n r h =
          let a = value_deep v n r h.1 in
          record { rest = a.rest; spelt = λ m q e y. (omega (arith, e, h.0), a.spelt m q e y) }
      bounds_deep (Tree.all k) n r h = record { rest = h.1; spelt = λ m q e y. (omega (arith, e, h.0), y) }

    -- the plain form opens no more
    pub spelled_shallow : (v : Value) → Shallow 0 (classes (yield_value v [])) → Shallow 0 (spelt_classes (spell bytes v []))
    spelled_shallow v h = let a = value_deep v 0 [] h in a.spelt 0 [] (omega arith) a.rest
