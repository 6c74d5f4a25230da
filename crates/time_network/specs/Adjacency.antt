-- A node is taken apart, and the arcs at its place are those at the node.
use Rattle.std.specs.Prelude.{◌≡◌, ℕ, ◌+◌, ◌-◌, ◌*◌, ◌/◌, ◌%◌, ◌<◌, ◌≤◌, refl}
use Rattle.std.proofs.Common.{arith, ⊎_elim, sym, ◌∙◌, subst}
use Rattle.std.proofs.lemmas.Bool.{lt-ltb, cases_eq, ne_eqb, cond-true, cond-false}
use Rattle.std.proofs.lemmas.Nat.{div-add-mod', div_below, mod_below}
use Rattle.model.specs.Meaning.{Meaning, Bounds}
use Rattle.flow.specs.Answers.{Lists}
use Rattle.plan_theory.specs.TimeNetwork.{here, time_net}
use Rattle.plan_theory.specs.TimeArcs.{point_inner}
use Rattle.time_network.specs.declared.place.Place.{Place}
use Rattle.time_network.specs.declared.place.Place.TheVariants.{Source, Sink, Inner}
use Rattle.time_network.specs.Listing.{decode, outward, inward}
use Rattle.time_network.specs.Points.{wide}
use Rattle.time_network.specs.Leaving.{leaving_source_lists, leaving_sink_lists, leaving_point_lists}
use Rattle.time_network.specs.CutOff.{entering_source_lists, entering_sink_lists}
use Rattle.time_network.specs.Landing.{entering_point_lists}

module _ (m : Meaning) (b : Bounds m) where
  -- a node taken apart, with what is known of its parts
  pub record Taken (v : ℕ) : Type 0 where
    pub row : (v - 2) / (m.horizon - 1) < m.n
    pub column : (v - 2) % (m.horizon - 1) + 1 < m.horizon
    pub whole : here m ((v - 2) / (m.horizon - 1)) ((v - 2) % (m.horizon - 1) + 1) ≡ v

  taken_apart : (v : ℕ) → 2 ≤ v → v < (time_net m).nodes → Taken v
  taken_apart v two l =
      let w = m.horizon - 1 in
      let x : v - 2 < m.n * w = omega arith in
      let some : 0 < w = wide (v - 2) m.n w x in
      let c = mod_below (v - 2) w some in
      let d = div-add-mod' (v - 2) w in
      let column : (v - 2) % w + 1 < m.horizon = omega arith in
      record {
        row = div_below (v - 2) w m.n some x;
        column = column;
        whole = point_inner m.horizon ((v - 2) / w) ((v - 2) % w + 1) (omega arith) column ∙ omega arith;
      }

  decode_source : decode m 0 ≡ Source
  decode_source = refl

  decode_sink : decode m 1 ≡ Sink
  decode_sink = refl

  decode_inner : (v : ℕ) → 2 ≤ v → v < (time_net m).nodes
      → decode m v ≡ Inner (record { activity = (v - 2) / (m.horizon - 1); before = (v - 2) % (m.horizon - 1) })
  decode_inner v two l =
      cond-false _ _ _ (ne_eqb v 0 (λ e. omega arith))
      ∙ (cond-false _ _ _ (ne_eqb v 1 (λ e. omega arith)) ∙ cond-true _ _ _ (lt-ltb v (time_net m).nodes l))

  -- what holds at each place, of a node taken apart
  each_place : (P : ℕ → Place → Type 0) → P 0 Source → P 1 Sink
      → ((a t : ℕ) → a < m.n → t + 1 < m.horizon → P (here m a (t + 1)) (Inner (record { activity = a; before = t })))
      → (v : ℕ) → v < (time_net m).nodes → P v (decode m v)
  each_place P p q r v l =
      ⊎_elim
      (λ z. subst (λ (x : ℕ). P x (decode m x)) (sym z) p)
      (λ n0. ⊎_elim
      (λ z. subst (λ (x : ℕ). P x (decode m x)) (sym z) q)
      (λ n1.
      let two : 2 ≤ v = omega arith in
      let y = taken_apart v two l in
      let a = (v - 2) / (m.horizon - 1) in
      let t = (v - 2) % (m.horizon - 1) in
      subst (P v) (sym (decode_inner v two l))
      (subst (λ (x : ℕ). P x (Inner (record { activity = a; before = t }))) y.whole (r a t y.row y.column)))
      (cases_eq v 1))
      (cases_eq v 0)

  pub outward_lists : (v : ℕ) → v < (time_net m).nodes
      → Lists (time_net m) (time_net m).tail (time_net m).head v (λ c. outward m (decode m v) c)
  outward_lists =
      each_place (λ v p. Lists (time_net m) (time_net m).tail (time_net m).head v (λ c. outward m p c))
      (leaving_source_lists m b) (leaving_sink_lists m b) (leaving_point_lists m b)

  pub inward_lists : (v : ℕ) → v < (time_net m).nodes
      → Lists (time_net m) (time_net m).head (time_net m).tail v (λ c. inward m (decode m v) c)
  inward_lists =
      each_place (λ v p. Lists (time_net m) (time_net m).head (time_net m).tail v (λ c. inward m p c))
      (entering_source_lists m b) (entering_sink_lists m b) (entering_point_lists m b)
