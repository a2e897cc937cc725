-- Two instances of code are the same exactly where the instances of the definitions are that they are.
use Rattle.std.proofs.Common.{◌≡◌, ◌↔◌, IsTrue, Bool, [], ◌∷◌, sym, ap, ◌∙◌, inl, inr}
use Rattle.std.proofs.Math.Bool.{or-false}
use Rattle.game_rules.proofs.Squares.{agree}
use Rattle.plan_rules.specs.Listing.{same_instance}
use Rattle.plan_rules.proofs.Listed.{instance_gives, instance_from}
use Rattle.rule_compat.specs.declared.instance.Instance.{Instance}
use Rattle.rule_compat.specs.declared.instance.Instance.TheVariants as instances
use Rattle.rule_compat.specs.Written.{written}

written_once : (v w : Instance) → written v ≡ written w → v ≡ w
written_once (instances.Claimeven x) (instances.Claimeven u) h = let a : x ≡ u = cc h in ap instances.Claimeven a
written_once (instances.Baseinverse (s, t)) (instances.Baseinverse (u, v)) h = let a : s ≡ u = cc h in let b : t ≡ v = cc h in cc (a, b)
written_once (instances.Lowinverse (x, x_top, y, y_top)) (instances.Lowinverse (u, u_top, v, v_top)) h =
    let a : x ≡ u = cc h in let b : x_top ≡ u_top = cc h in let c : y ≡ v = cc h in let d : y_top ≡ v_top = cc h in cc (a, b, c, d)
written_once (instances.Highinverse (s, t)) (instances.Highinverse (u, v)) h = let a : s ≡ u = cc h in let b : t ≡ v = cc h in cc (a, b)
written_once (instances.Baseclaim (a, b, e)) (instances.Baseclaim (u, v, w)) h = let f : a ≡ u = cc h in let g : b ≡ v = cc h in let k : e
    ≡ w = cc h in cc (f, g, k)
written_once (instances.Vertical x) (instances.Vertical u) h = let a : x ≡ u = cc h in ap instances.Vertical a
written_once (instances.Aftereven x) (instances.Aftereven u) h = let a : x ≡ u = cc h in ap instances.Aftereven a
written_once (instances.Before x) (instances.Before u) h = let a : x ≡ u = cc h in ap instances.Before a
written_once (instances.Specialbefore (g, f, e)) (instances.Specialbefore (u, v, w)) h = let a : g ≡ u = cc h in let b : f ≡ v = cc h in let c : e
    ≡ w = cc h in cc (a, b, c)
written_once v w h = absurd (cc h)

pub same_is : (v w : Instance) (b : Bool) → IsTrue b ↔ (v ≡ w) → b ≡ same_instance (written v) (written w)
same_is v w b told = agree b (same_instance (written v) (written w))
    (λ same. sym (or-false (same_instance (written v) (written w))) ∙ instance_from (written w ∷ []) (written v) (inl (sym (ap written (told.0 same)))))
    (λ same. told.1 (written_once v w (elim (instance_gives (written w ∷ []) (written v) (or-false (same_instance (written v) (written w)) ∙ same)) [
      | inl is ↦ sym is
      | inr none ↦ absurd none
    ])))
