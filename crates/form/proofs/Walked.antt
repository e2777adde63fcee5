-- The nodes of a derivation have the bytes of its plain form. Assumes nothing.
use mathlib.Core.Path.{refl, sym, subst, ◌∙◌}
use mathlib.Core.Bool.{false}
use mathlib.Core.List.{List, [], ◌∷◌, append-nil}
use Prim.Native.Nat.{ℕ}
use native.Mathlib.Omega.{arith}
use Rattle.rules.specs.Class.{codes}
use Rattle.lexicon.specs.declared.Bound.TheVariants.{Open}
use Rattle.grammar.specs.Tokens
use Rattle.grammar.specs.Tokens.{Span, Tok, tok, Atom, Wording, atom, text, round, curly, square, mark, spelled}
use Rattle.grammar.specs.Tree
use Rattle.grammar.specs.Tree.{Names, PlainName, text_name, nesting_name, Name, plain_name, bare_name, Measure, Count, Style, Value, Plain, Item, Row, Listing, Attributes, Bounds}
use Rattle.grammar.specs.Yield.{yield_names, yield_plain_name, yield_name, yield_count, yield_value, yield_plain, yield_item, yield_row, yield_listing, yield_attributes, yield_bounds, arrow_mark, joiner_mark, between_mark, side_bound}
use Rattle.grammar.specs.Yield as Yield
use Rattle.grammar.specs.Level.{Level}
use Rattle.grammar.specs.Nodes
use Rattle.grammar.specs.Nodes.{NodeKind, Role, names_span, atom_kind, alone_role_of, left_role_of, right_role_of, joiner_left, joiner_right, collection_kind, bounds_detail}
use Rattle.reading.specs.declared.Limits.{Limits}
use Rattle.reading.specs.Tokens.{Follow, next}
use Rattle.reading.specs.Answers.{Accepted}
use Rattle.reading.proofs.Derived.{accepted_derived}
use Rattle.form.specs.Bare.{bare}
use Rattle.form.specs.Spell.{Spelt, put, part, spell, spell_plain, spell_plain_name, spell_name, spell_names, spell_count, spell_wording, spell_item, spell_row, spell_listing, spell_attributes, spell_bounds, plain_form}
use Rattle.grammar.proofs.Branches.{Branch, none, end, grow, grow_plain, grow_plain_name, grow_name, grow_count, grow_item, grow_row, grow_listing, grow_attributes, grow_bounds}
use Rattle.form.proofs.Walk.{Walked, no_more}
use Rattle.form.proofs.Puts.{puts_none, puts_one}
use Rattle.form.proofs.Ends.{Said, first_token, literal_said, wording_detail, text_said, nesting_said}
use Rattle.form.proofs.Roles.{value_role, plain_role, plain_name_role, name_role, count_role}
use Rattle.form.proofs.Members.{alone, name_value_lem, value_count, Child, Leads, joined, whole, with_last}
use Rattle.form.proofs.Bracketed.{counted_tail, Inside, inside_plain, in_bracket, a_pair_lem, a_counted, Untailed, no_members, all_inside}
use Rattle.form.proofs.Interval.{no_bound, single_bound, two_bounds, low_bound, high_bound, open_bounds}
use Rattle.form.proofs.Attributes.{attribute_one, row_and_item, one_behind_lem, more_behind, trailing}

module _ (bytes : List ℕ) where
  -- ---- rows of tokens

  -- the tokens stand in the text, one behind the other
  record InText (ts : List Tok) : Type 0 where
    from : ℕ
    upto : ℕ
    row : Follow bytes from ts upto

  past : {w : Tok} {r : List Tok} → InText (w ∷ r) → InText r
  past x = by x.row
    where
      by : {p q : ℕ} {w : Tok} {r : List Tok} → Follow bytes p (w ∷ r) q → InText r
      by (next {q = q} {t = t} c f) = record { from = t.end; upto = q; row = f }

  -- a branch, and the tokens behind it
  abbrev Grown : Branch → (List Spelt → List Spelt) → List Tok → Type 0
  Grown b f r = Said bytes b f × InText r

  a_literal_lem : (a : Atom) (s : Span) {d : ℕ} {role : Role} {r : List Tok} → InText (tok (atom a) s ∷ r) →
      Grown (end (atom_kind a) s role d) (λ ws. put (atom a) (bare (part bytes s)) ws) r
  a_literal_lem a s {r = r} x = (literal_said bytes a s (first_token bytes (atom a) s r x.row), past x)

  a_text_lem : (w : Wording) (s : Span) {role : Role} {r : List Tok} → InText (tok (text w) s ∷ r) →
      Grown (end Nodes.a_text s role (wording_detail w)) (λ ws. spell_wording bytes w s ws) r
  a_text_lem w s {r = r} x = (text_said bytes w s (first_token bytes (text w) s r x.row), past x)

  a_nesting_lem : (n : Names) {role : Role} (r : List Tok) → InText (yield_names n r) → Grown (end Nodes.a_nesting (names_span n) role 0) (λ ws. spell_names bytes n ws) r
  a_nesting_lem n r x = let y = nesting_said bytes n r x.row in (y.0, record { from = (names_span n).end; upto = x.upto; row = y.1 })

  a_plain_name : (n : PlainName) (role : Role) (r : List Tok) → InText (yield_plain_name n r) → Grown (grow_plain_name n role) (λ ws. spell_plain_name bytes n ws) r
  a_plain_name (text_name w s) role r x = a_text_lem (spelled w) s x
  a_plain_name (nesting_name n) role r x = a_nesting_lem n r x

  a_name_lem : (n : Name) (role : Role) (r : List Tok) → InText (yield_name n r) → Grown (grow_name n role) (λ ws. spell_name bytes n ws) r
  a_name_lem (plain_name n) role r x = a_plain_name n role r x
  a_name_lem (bare_name h s) role r x = a_text_lem (Tokens.head_word h) s x

  a_count : {u : Measure} (c : Count u) (r : List Tok) → InText (yield_count c r) → Grown (grow_count c) (λ ws. spell_count bytes c ws) r
  a_count (Tree.number s) r x = a_literal_lem (Tokens.integer false) s x
  a_count (Tree.truth b s) r x = a_literal_lem (Tokens.boolean b) s x

  value_child : (v : Value) (role : Role) → Said bytes (grow v role) (λ ws. spell bytes v ws) → Child bytes role (grow v role) (λ ws. spell bytes v ws)
  value_child v role x = record { said = x; role_is = value_role v role }

  -- ---- derivations

  mutual
    of_value_lem : (v : Value) (role : Role) (r : List Tok) → InText (yield_value v r) → Grown (grow v role) (λ ws. spell bytes v ws) r
    of_value_lem (Tree.plain p) role r x = of_plain p role r x
    of_value_lem (Tree.bare h s) role r x = a_text_lem (Tokens.head_word h) s x

    of_plain : (p : Plain) (role : Role) (r : List Tok) → InText (yield_plain p r) → Grown (grow_plain p role) (λ ws. spell_plain bytes p ws) r
    of_plain (Tree.literal a s) role r x = a_literal_lem a s x
    of_plain (Tree.text w s) role r x = a_text_lem (spelled w) s x
    of_plain (Tree.nesting n) role r x = a_nesting_lem n r x
    of_plain (Tree.group o v c) role r x = let y = of_value_lem v role (Yield.sign Tokens.round_close c r) (past x) in (y.0, past y.1)
    of_plain (Tree.pair o p k v c) role r x =
        let y = of_plain p Nodes.this (Yield.sign Tokens.colon k (yield_value v (Yield.sign Tokens.round_close c r))) (past x) in
        let z = of_value_lem v Nodes.that_after (Yield.sign Tokens.round_close c r) (past y.1) in
        (a_pair_lem bytes Tree.colon (record { said = y.0; role_is = plain_role p Nodes.this }) (value_child v Nodes.that_after z.0), past z.1)
    of_plain (Tree.arrowed o v a k w c) role r x =
        let y = of_value_lem v (left_role_of a) (Yield.sign (arrow_mark a) k (yield_value w (Yield.sign Tokens.round_close c r))) (past x) in
        let z = of_value_lem w (right_role_of a) (Yield.sign Tokens.round_close c r) (past y.1) in
        (a_pair_lem bytes (Tree.arrow a) (value_child v (left_role_of a) y.0) (value_child w (right_role_of a) z.0), past z.1)
    of_plain (Tree.tuple o l c) role r x =
        let y = of_attributes l (Yield.sign Tokens.round_close c r) (past x) in
        (in_bracket bytes (omega arith) (puts_one round (codes "(")) y.0 (puts_one (mark Tokens.round_close) (codes ")")), past y.1)
    of_plain (Tree.lot o l c) role r x =
        let y = of_listing l Nodes.a_lot (λ cs. refl) (Yield.sign Tokens.curly_close c r) (past x) in
        (in_bracket bytes (omega arith) (puts_one curly (codes "{")) y.0 (puts_one (mark Tokens.curly_close) (codes "}")), past y.1)
    of_plain (Tree.counted o h s k b l e c) role r x =
        let y = of_listing l (collection_kind h) (counted_tail h) (Yield.sign Tokens.curly_close e (Yield.sign Tokens.round_close c r)) (past (past (past (past x)))) in
        (a_counted bytes h y.0, past (past y.1))
    of_plain (Tree.interval o b c) role r x =
        let y = of_bounds b (Yield.sign Tokens.square_close c r) (past x) in
        (in_bracket bytes (omega arith) (puts_one square (codes "[")) y.0 (puts_one (mark Tokens.square_close) (codes "]")), past y.1)

    of_item : {s : Style} (i : Item s) (r : List Tok) → InText (yield_item i r) → Leads bytes (λ cs. grow_item i cs) (λ ws. spell_item bytes i ws) × InText r
    of_item (Tree.alone {s} v) r x =
        let y = of_value_lem v (alone_role_of s) r x in (record { front = λ z. alone bytes z s (value_child v (alone_role_of s) y.0) }, y.1)
    of_item (Tree.open_named n k v) r x =
        let y = a_plain_name n Nodes.name (Yield.sign Tokens.colon k (yield_value v r)) x in
        let z = of_value_lem v Nodes.value r (past y.1) in
        (record { front = λ q. name_value_lem bytes q (record { said = y.0; role_is = plain_name_role n Nodes.name }) (value_child v Nodes.value z.0) }, z.1)
    of_item (Tree.named n k v) r x =
        let y = a_name_lem n Nodes.name (Yield.sign Tokens.colon k (yield_value v r)) x in
        let z = of_value_lem v Nodes.value r (past y.1) in
        (record { front = λ q. name_value_lem bytes q (record { said = y.0; role_is = name_role n Nodes.name }) (value_child v Nodes.value z.0) }, z.1)
    of_item (Tree.joined v j k w) r x =
        let y = of_value_lem v (joiner_left j) (Yield.sign (joiner_mark j) k (yield_value w r)) x in
        let z = of_value_lem w (joiner_right j) r (past y.1) in
        (joined bytes j (value_child v (joiner_left j) y.0) (value_child w (joiner_right j) z.0), z.1)
    of_item (Tree.times v k c) r x =
        let y = of_value_lem v Nodes.value (Yield.sign Tokens.colon k (yield_count c r)) x in
        let z = a_count c r (past y.1) in
        (record { front = λ q. value_count bytes q (value_child v Nodes.value y.0) (record { said = z.0; role_is = count_role c }) }, z.1)

    of_row : {f s : Style} (o : Row f s) (r : List Tok) → InText (yield_row o r) → Leads bytes (λ cs. grow_row o cs) (λ ws. spell_row bytes o ws) × InText r
    of_row (Tree.row_first i c) r x = let y = of_item i (Yield.sign Tokens.comma c r) x in (y.0, past y.1)
    of_row (Tree.row_led b i c) r x = let y = of_item i (Yield.sign Tokens.comma c r) (past x) in (y.0, past y.1)
    of_row (Tree.row_next o i c) r x =
        let y = of_row o (yield_item i (Yield.sign Tokens.comma c r)) x in
        let z = of_item i (Yield.sign Tokens.comma c r) y.1 in
        (with_last bytes y.0 z.0, past z.1)

    of_listing : {s : Style} (l : Listing s) (k : NodeKind) → Untailed k → (r : List Tok) → InText (yield_listing l r) →
        Inside bytes k 0 (grow_listing l none) (λ ws. spell_listing bytes l ws) × InText r
    of_listing Tree.no_item k t r x = (no_members bytes t, x)
    of_listing (Tree.one_comma c) k t r x = (no_members bytes t, past x)
    of_listing (Tree.two_commas c d) k t r x = (no_members bytes t, past (past x))
    of_listing (Tree.one_item i) k t r x = let y = of_item i r x in (all_inside bytes t (whole bytes y.0), y.1)
    of_listing (Tree.led_item c i) k t r x = let y = of_item i r (past x) in (all_inside bytes t (whole bytes y.0), y.1)
    of_listing (Tree.trailing o) k t r x = let y = of_row o r x in (all_inside bytes t (whole bytes y.0), y.1)
    of_listing (Tree.last_item o i) k t r x =
        let y = of_row o (yield_item i r) x in
        let z = of_item i r y.1 in
        (all_inside bytes t (whole bytes (with_last bytes y.0 z.0)), z.1)

    of_attributes : (l : Attributes) (r : List Tok) → InText (yield_attributes l r) →
        Inside bytes Nodes.a_tuple 0 (grow_attributes l none) (λ ws. spell_attributes bytes l ws) × InText r
    of_attributes Tree.no_attribute r x = (inside_plain bytes refl no_more puts_none, x)
    of_attributes (Tree.led_attribute c i) r x = let y = of_item i r (past x) in (one_behind_lem bytes (attribute_one i) (whole bytes y.0), y.1)
    of_attributes (Tree.trailing_comma o) r x = let y = of_row o r x in (trailing bytes o (whole bytes y.0), y.1)
    of_attributes (Tree.last_attribute o i) r x =
        let y = of_row o (yield_item i r) x in
        let z = of_item i r y.1 in
        (more_behind bytes (row_and_item o i) (whole bytes (with_last bytes y.0 z.0)), z.1)

    of_bounds : (b : Bounds) (r : List Tok) → InText (yield_bounds b r) →
        Inside bytes Nodes.an_interval (bounds_detail b) (grow_bounds b) (λ ws. spell_bounds bytes b ws) × InText r
    of_bounds Tree.empty r x = (no_bound bytes, x)
    of_bounds (Tree.single v) r x = let y = of_value_lem v Nodes.single r x in (single_bound bytes (value_child v Nodes.single y.0), y.1)
    of_bounds (Tree.between v b k w) r x =
        let y = of_value_lem v Nodes.low (Yield.sign (between_mark b) k (yield_value w r)) x in
        let z = of_value_lem w Nodes.high r (past y.1) in
        (two_bounds bytes b (value_child v Nodes.low y.0) (value_child w Nodes.high z.0), z.1)
    of_bounds (Tree.from v a k) r x =
        let y = of_value_lem v Nodes.low (Yield.sign (Tokens.star (side_bound a) Open) k r) x in (low_bound bytes v a k (value_child v Nodes.low y.0), past y.1)
    of_bounds (Tree.up_to a k v) r x = let y = of_value_lem v Nodes.high r (past x) in (high_bound bytes v a k (value_child v Nodes.high y.0), y.1)
    of_bounds (Tree.all k) r x = (open_bounds bytes, past x)

  pub walked : {limits : Limits} {l : Level} {v : Value} → Accepted limits bytes l v → Walked bytes (grow v Nodes.root) (plain_form bytes v)
  walked {limits} {v = v} a =
      let d = accepted_derived limits bytes a in
      let x = (of_value_lem v Nodes.root [] (record { from = d.start; upto = d.end; row = d.row })).0 in
      subst (Walked bytes (grow v Nodes.root)) (sym (x.puts.bytes_are [] ∙ append-nil x.are)) x.walked
