use Rattle.std.proofs.Common.{◌≡◌, ◌+◌, ◌-◌, ◌<◌, length, sym, ap, ◌∙◌, subst, arith}
use Rattle.std.proofs.lemmas.List.{drop_all}
use Rattle.std.proofs.lemmas.Option.{slice_get_within}
use Rattle.rule_chooser.specs.Links.{next_at}
use Rattle.rule_chooser.proofs.Linked.{next_none, HeadsFrom, LinksFrom, heads_more, links_more}
use Rattle.rule_chooser.proofs.zones.link.Goals as goal

pub zones-init : goal.zones-init
zones-init c =
    let list = c.args.list.now in
    record {
      within = omega arith;
      heads = λ place low. c.requires.none place low
          ∙ sym (ap (next_at place (length list)) (drop_all (length list) list (omega arith)) ∙ next_none place (length list));
      links = λ i w from there. absurd (let within = slice_get_within list i w there in omega (arith, from, within));
    }

pub zones-preserved : goal.zones-preserved
zones-preserved c =
    let list = c.args.list.now in let n = c.zones.index - 1 in let zone = c.index-list-index.result in
    let some = c.zones-test.true in let most = c.zones.invariant.within in
    let more : c.zones.index ≡ n + 1 = omega (arith, some) in
    let within : n < length list = omega (arith, some, most) in
    let before = subst (λ k. HeadsFrom list k c.zones.heads) more c.zones.invariant.heads in
    let linked = subst (λ k. LinksFrom list k c.zones.links) more c.zones.invariant.links in
    record {
      within = omega (arith, most);
      heads = heads_more list n zone within c.index-list-index.is c.zones.heads c.link_one.new.heads
          (omega (arith, c.link_one.ensures.place, c.link_one.ensures.places)) c.link_one.ensures.heads before;
      links = links_more list n zone within c.index-list-index.is c.zones.heads c.zones.links c.link_one.new.links c.link_one.ensures.place
          (omega (arith, c.requires.few, within, c.link_one.ensures.all)) c.link_one.ensures.links before linked;
    }
