-- Soundness of the parts that a step makes longer, as tokens and by their level. Assumes nothing.
use mathlib.Core.Path.{◌≡◌, refl, sym, ap, ◌∙◌}
use mathlib.Core.Bool.{Bool, true, false, and-true}
use mathlib.Core.List.{List, ◌∷◌}
use mathlib.Core.Option.{Option, none, some}
use Rattle.grammar.specs.Tokens
use Rattle.grammar.specs.Tokens.{Span, Tok, tok, Class}
use Rattle.grammar.specs.Tree.{Style, attribute, Item, Listing}
use Rattle.grammar.specs.Yield.{sign, yield_item, yield_row, yield_listing, yield_attributes}
use Rattle.grammar.specs.Level.{Level, keeps_item, keeps_row, keeps_listing, keeps_attributes}
use Rattle.grammar.proofs.Frames.{Lead, lead_comma, lead_row, Front, start, led, row, Curly, lot_curly, counted_curly, Stack, Config, have_item, next_attribute, last_attribute, next_item, last_item, no_further, shut}
use Rattle.grammar.proofs.Machine.{when, curly}
use Rattle.grammar.proofs.Behind.{behind_lead, behind_front, behind_curly, behind_stack, behind, kept_lead, kept_front, kept_curly, kept_stack, kept}

-- ---- a part more, as tokens

next_behind : {s : Style} (f : Front s) (i : Item s) (c : Span) (r : List Tok) → yield_row (next_item f i c) r ≡ behind_front f (yield_item i (sign Tokens.comma c r))
next_behind start i c r = refl
next_behind (led b) i c r = refl
next_behind (row o) i c r = refl

last_behind : {s : Style} (f : Front s) (i : Item s) (r : List Tok) → yield_listing (last_item f i) r ≡ behind_front f (yield_item i r)
last_behind start i r = refl
last_behind (led b) i r = refl
last_behind (row o) i r = refl

pub none_behind : {s : Style} (f : Front s) (r : List Tok) → yield_listing (no_further f) r ≡ behind_front f r
none_behind start r = refl
none_behind (led b) r = refl
none_behind (row o) r = refl

pub next_attribute_behind : (f : Lead) (i : Item attribute) (c : Span) (r : List Tok) → yield_row (next_attribute f i c) r ≡ behind_lead f (yield_item i (sign Tokens.comma c r))
next_attribute_behind (lead_comma b) i c r = refl
next_attribute_behind (lead_row o) i c r = refl

pub last_attribute_behind : (f : Lead) (i : Item attribute) (r : List Tok) → yield_attributes (last_attribute f i) r ≡ behind_lead f (yield_item i r)
last_attribute_behind (lead_comma b) i r = refl
last_attribute_behind (lead_row o) i r = refl

pub shut_behind : {s : Style} (c : Curly s) (i : Listing s) (e : Span) (K : Stack) (r : List Tok) →
    behind (shut c i e K) r ≡ behind_stack K (behind_curly c (yield_listing i (sign Tokens.curly_close e r)))
shut_behind (lot_curly o) i e K r = refl
shut_behind (counted_curly o h s k b) i e K r = refl

module _ (l : Level) where
  -- ---- a part more, by its level

  next_kept : {s : Style} (f : Front s) (i : Item s) (c : Span) → keeps_row l (next_item f i c) ≡ kept_front l f (keeps_item l i)
  next_kept start i c = refl
  next_kept (led b) i c = refl
  next_kept (row o) i c = refl

  last_kept : {s : Style} (f : Front s) (i : Item s) → keeps_listing l (last_item f i) ≡ kept_front l f (keeps_item l i)
  last_kept start i = refl
  last_kept (led b) i = refl
  last_kept (row o) i = refl

  pub none_kept : {s : Style} (f : Front s) → keeps_listing l (no_further f) ≡ kept_front l f true
  none_kept start = refl
  none_kept (led b) = refl
  none_kept (row o) = sym (and-true (keeps_row l o))

  pub next_attribute_kept : (f : Lead) (i : Item attribute) (c : Span) → keeps_row l (next_attribute f i c) ≡ kept_lead l f (keeps_item l i)
  next_attribute_kept (lead_comma b) i c = refl
  next_attribute_kept (lead_row o) i c = refl

  pub last_attribute_kept : (f : Lead) (i : Item attribute) → keeps_attributes l (last_attribute f i) ≡ kept_lead l f (keeps_item l i)
  last_attribute_kept (lead_comma b) i = refl
  last_attribute_kept (lead_row o) i = refl

  pub shut_kept : {s : Style} (c : Curly s) (i : Listing s) (e : Span) (K : Stack) → kept l (shut c i e K) ≡ kept_stack l K (kept_curly l c (keeps_listing l i))
  shut_kept (lot_curly o) i e K = refl
  shut_kept (counted_curly o h s k b) i e K = refl

  -- ---- one step

  -- the configuration d is c with the tokens ts behind it
  pub record Goes (c : Config) (ts : List Tok → List Tok) (d : Config) : Type 0 where
    pub reads : (r : List Tok) → behind d r ≡ behind c (ts r)
    pub level : kept l d ≡ kept l c

  abbrev pub Sound : Config → (List Tok → List Tok) → Option Config → Type 0
  Sound c ts none = Unit {0}
  Sound c ts (some d) = Goes c ts d

  abbrev pub Takes : Config → Class → Span → Option Config → Type 0
  Takes c k s m = Sound c (λ r. tok k s ∷ r) m

  pub goes : {c d : Config} {ts : List Tok → List Tok} → ((r : List Tok) → behind d r ≡ behind c (ts r)) → kept l d ≡ kept l c → Goes c ts d
  goes f g = record { reads = f; level = g }

  pub sound_when : {c d : Config} {k : Class} {s : Span} (b : Bool) → (b ≡ true → Takes c k s (some d)) → Takes c k s (when b d)
  sound_when true g = g refl
  sound_when false g = tt

  -- an item in curly brackets, and what ends it
  pub item_shut : {s : Style} (c : Curly s) (f : Front s) (i : Item s) (e : Span) (K : Stack) → Takes (have_item c f i K) (Tokens.mark Tokens.curly_close) e (some (shut c (last_item f i) e K))
  item_shut c f i e K =
      goes (λ r. shut_behind c (last_item f i) e K r ∙ ap (λ (x : List Tok). behind_stack K (behind_curly c x)) (last_behind f i (sign Tokens.curly_close e r)))
      (shut_kept c (last_item f i) e K ∙ ap (λ (x : Bool). kept_stack l K (kept_curly l c x)) (last_kept f i))

  pub item_next : {s : Style} (c : Curly s) (f : Front s) (i : Item s) (d : Span) (K : Stack) → Takes (have_item c f i K) (Tokens.mark Tokens.comma) d (some (curly c (row (next_item f i d)) K))
  item_next c f i d K =
      goes (λ r. ap (λ (x : List Tok). behind_stack K (behind_curly c x)) (next_behind f i d r))
      (ap (λ (x : Bool). kept_stack l K (kept_curly l c x)) (and-true (keeps_row l (next_item f i d)) ∙ next_kept f i d))
