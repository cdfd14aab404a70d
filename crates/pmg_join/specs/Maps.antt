-- Maps are joined key by key.
use Rattle.std.proofs.Common.{◌≡◌, refl, ap}
use Rattle.std.specs.Prelude.{⊤, Option, Some, None, IfSome, if◌then◌else◌}
use Rattle.std.specs.Option.{option_map}
use Rattle.std.specs.Ordering.{eq_by_cmp}
use Rattle.std.specs.declared.cmp.Ordering.{Ordering}
use Rattle.std.specs.BTreeMap.{BTreeMap, get}
use Rattle.pmg_value.specs.Maps.{join_options, join_to}
use Rattle.pmg_join.specs.Joins.{JoinLaws, JoinOrder}
use Rattle.pmg_join.specs.Places.{there_at}

-- a missing value is within anything, and a value only within a value
abbrev pub OptionWithin : {M : Type 0} → (M → M → Type 0) → Option M → Option M → Type 0
OptionWithin Within None b = ⊤
OptionWithin Within (Some a) None = ⊥
OptionWithin Within (Some a) (Some b) = Within a b

-- the content of a map at a key, by its meaning; an empty place is only room
abbrev pub meant_at : {K J M : Type 0} → (K → K → Ordering) → (J → M) → BTreeMap K (Option J) → K → Option M
meant_at R meaning table key = option_map meaning (there_at R table key)

-- the place, if it is there, has room to take the part: any part, if it is empty
abbrev pub IsRoomFor : {J : Type 0} → (J → J → Type 0) → J → Option (Option J) → Type 0
IsRoomFor HasRoom part None = ⊥
IsRoomFor HasRoom part (Some None) = Unit {0}
IsRoomFor HasRoom part (Some (Some there)) = HasRoom there part

-- there is room in the one map to take each part of the other
abbrev pub HaveRoomFor : {K J : Type 0} → (K → K → Ordering) → (J → J → Type 0) → BTreeMap K (Option J) → BTreeMap K (Option J) → Type 0
HaveRoomFor {K} R HasRoom table other = (key : K) → IfSome (there_at R other key) (λ part. IsRoomFor HasRoom part (get R table key))

-- two maps joined: at each key the values of both, joined
abbrev pub join_at_keys : {K M : Type 0} → (M → M → M) → (K → Option M) → (K → Option M) → K → Option M
join_at_keys join f g key = join_options join (f key) (g key)

-- at each key the content of the one is within the content of the other
abbrev pub WithinAtKeys : {K M : Type 0} → (M → M → Type 0) → (K → Option M) → (K → Option M) → Type 0
WithinAtKeys {K} Within f g = (key : K) → OptionWithin Within (f key) (g key)

-- the map with m joined to what it has at the key
abbrev pub joined_under : {K M : Type 0} → (K → K → Ordering) → (M → M → M) → (K → Option M) → K → M → K → Option M
joined_under R join f key m q = if eq_by_cmp R q key then Some (join_to join (f key) m) else f q

-- ---- the laws
module _ {A : Type 0} {join : A → A → A} (laws : JoinLaws join) where
  options_assoc : (a b c : Option A) → join_options join (join_options join a b) c ≡ join_options join a (join_options join b c)
  options_assoc None b c = refl
  options_assoc (Some a) None c = refl
  options_assoc (Some a) (Some b) None = refl
  options_assoc (Some a) (Some b) (Some c) = ap Some (laws.assoc a b c)

  options_comm : (a b : Option A) → join_options join a b ≡ join_options join b a
  options_comm None None = refl
  options_comm None (Some b) = refl
  options_comm (Some a) None = refl
  options_comm (Some a) (Some b) = ap Some (laws.comm a b)

  options_idem : (a : Option A) → join_options join a a ≡ a
  options_idem None = refl
  options_idem (Some a) = ap Some (laws.idem a)

  pub options_joined : JoinLaws (join_options join)
  options_joined = record { assoc = options_assoc; comm = options_comm; idem = options_idem }

  pub functions_joined : {K : Type 0} → JoinLaws (join_at_keys {K = K} join)
  functions_joined = record {
    assoc = λ f g h i q. options_assoc (f q) (g q) (h q) i;
    comm = λ f g i q. options_comm (f q) (g q) i;
    idem = λ f i q. options_idem (f q) i;
  }

module _ {A : Type 0} {join : A → A → A} {Within : A → A → Type 0} (order : JoinOrder join Within) where
  reflexive : (a : Option A) → OptionWithin Within a a
  reflexive None = tt
  reflexive (Some a) = order.reflexive a

  transitive : (a b c : Option A) → OptionWithin Within a b → OptionWithin Within b c → OptionWithin Within a c
  transitive None b c p q = tt
  transitive (Some a) None c p q = absurd p
  transitive (Some a) (Some b) None p q = q
  transitive (Some a) (Some b) (Some c) p q = order.transitive a b c p q

  antisymmetric : (a b : Option A) → OptionWithin Within a b → OptionWithin Within b a → a ≡ b
  antisymmetric None None p q = refl
  antisymmetric None (Some b) p q = absurd q
  antisymmetric (Some a) None p q = absurd p
  antisymmetric (Some a) (Some b) p q = ap Some (order.antisymmetric a b p q)

  left : (a b : Option A) → OptionWithin Within a (join_options join a b)
  left None b = tt
  left (Some a) None = order.reflexive a
  left (Some a) (Some b) = order.left a b

  right : (a b : Option A) → OptionWithin Within b (join_options join a b)
  right a None = tt
  right None (Some b) = order.reflexive b
  right (Some a) (Some b) = order.right a b

  least : (a b c : Option A) → OptionWithin Within a c → OptionWithin Within b c → OptionWithin Within (join_options join a b) c
  least None b c p q = q
  least (Some a) None c p q = p
  least (Some a) (Some b) None p q = p
  least (Some a) (Some b) (Some c) p q = order.least a b c p q

  pub options_ordered : JoinOrder (join_options join) (OptionWithin Within)
  options_ordered = record { reflexive = reflexive; transitive = transitive; antisymmetric = antisymmetric; left = left; right = right; least = least }

  pub functions_ordered : {K : Type 0} → JoinOrder (join_at_keys {K = K} join) (WithinAtKeys Within)
  functions_ordered = record {
    reflexive = λ f q. reflexive (f q);
    transitive = λ f g h a b q. transitive (f q) (g q) (h q) (a q) (b q);
    antisymmetric = λ f g a b i q. antisymmetric (f q) (g q) (a q) (b q) i;
    left = λ f g q. left (f q) (g q);
    right = λ f g q. right (f q) (g q);
    least = λ f g h a b q. least (f q) (g q) (h q) (a q) (b q);
  }
