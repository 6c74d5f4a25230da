-- What a step of a visit says of its arc, by the way that it is passed.
use Rattle.std.proofs.Common.{◌≡◌, ℕ, true, Some, sym, subst, inl, inr}
use Rattle.std.proofs.lemmas.Bool.{ltb-true}
use Rattle.flow.specs.declared.network.Step.{Step}
use Rattle.flow.specs.declared.visit.Visit.{Visit}
use Rattle.flow.specs.declared.visit.Way.{Way}
use Rattle.flow.specs.declared.visit.Way.TheVariants.{Along, Back}
use Rattle.flow.specs.Nets.{Net}
use Rattle.flow.specs.Answers.{Names, Asked}
use Rattle.flow.specs.Passing.{near, far, passes}
use Rattle.flow.specs.Searches.{Opens}

-- over an arc that leads on
pub step_opens : (n : Net) (f : ℕ → ℕ) (way : Way) (u cursor : ℕ) (s : Step) → Names n (near n way) (far n way) u cursor s
    → true ≡ passes n f way s.arc → Opens n f s.arc u s.node
step_opens n f Along u cursor s x p = (x.exists, inl (sym p, x.here, x.there))
step_opens n f Back u cursor s x p = (x.exists, inr (ltb-true 0 (f s.arc) (sym p), x.here, x.there))

-- a step of a visit that is known as v', one way
pub asked_by : {N : _} {A : _} {b : _} {v v' : Visit N A b} {way way' : Way} (cursor : ℕ) (s : Step) → v ≡ v'
    → way ≡ way'
    → Asked (b.net v.network.now) (near (b.net v.network.now) way) (far (b.net v.network.now) way) v.node cursor (Some s)
    → Asked (b.net v'.network.now) (near (b.net v'.network.now) way') (far (b.net v'.network.now) way') v'.node cursor
    (Some s)
asked_by {b = b} {v = v} {way' = way'} cursor s ev ew x =
    subst (λ y. Asked (b.net y.network.now) (near (b.net y.network.now) way') (far (b.net y.network.now) way') y.node
    cursor (Some s)) ev
    (subst (λ (w : Way). Asked (b.net v.network.now) (near (b.net v.network.now) w) (far (b.net v.network.now) w)
    v.node cursor (Some s)) ew x)
