use Rattle.std.proofs.Common.{true, ◌&&◌, sym, ap, ◌∙◌}
use Rattle.lru.specs.LruCache.{put_entries, displaced}
use Rattle.position_key.specs.Keys.{same_key}
use Rattle.position_table.specs.Table.{entries_kept, whole_kept}
use Rattle.position_table.proofs.Kept.{put_is, whole_if_none, whole_if_some}
use Rattle.position_table.proofs.table.Table.keep.Goals as goal
use Rattle.position_table.proofs.table.Table.keep.Goals.{then-self, else-self}

pub returns-in-Ok-None-clause-kept : goal.returns-in-Ok-None-clause-kept
returns-in-Ok-None-clause-kept c =
    ap (λ cache. cache.entries) c.in-Ok-None.ensures.entries
    ∙ ap (λ k. put_entries same_key c.self.inside.cache k c.args.found) c.of-key.ensures
    ∙ put_is c.args.position.now c.args.question c.args.found c.self.inside.cache.entries c.self.inside.cache.cap c.self.inside.whole
    ∙ ap (entries_kept c.args.position.now c.args.question c.args.found) c.self.view_is

pub returns-in-Ok-None-clause-whole : goal.returns-in-Ok-None-clause-whole
returns-in-Ok-None-clause-whole c =
    whole_if_none c.args.position.now c.args.question c.args.found c.self.inside.cache.entries c.self.inside.cache.cap c.self.inside.whole
    c.len-len.ensures.valid.2 (ap (λ k. displaced same_key c.self.inside.cache k c.args.found) (sym c.of-key.ensures) ∙ sym c.in-Ok-None.ensures.old
    ∙ c.in-Ok-None.field-0-is)
    ∙ ap (λ t. whole_kept c.args.position.now c.args.question t true) c.self.view_is

pub returns-after-self-clause-kept : goal.returns-after-self-clause-kept
returns-after-self-clause-kept c =
    ap (λ cache. cache.entries) c.in-Ok-Some.ensures.entries
    ∙ ap (λ k. put_entries same_key c.self.inside.cache k c.args.found) c.of-key.ensures
    ∙ put_is c.args.position.now c.args.question c.args.found c.self.inside.cache.entries c.self.inside.cache.cap c.self.inside.whole
    ∙ ap (entries_kept c.args.position.now c.args.question c.args.found) c.self.view_is

pub returns-after-self-clause-whole : goal.returns-after-self-clause-whole
returns-after-self-clause-whole c =
    let told = whole_if_some c.args.position.now c.args.question c.args.found c.self.inside.cache.entries c.self.inside.cache.cap c.self.inside.whole
    c.len-len.ensures.valid.2 (c.in-Ok-Some.gone, c.in-Ok-Some.field-0-0-1)
    (ap (λ k. displaced same_key c.self.inside.cache k c.args.found) (sym c.of-key.ensures) ∙ sym c.in-Ok-Some.ensures.old ∙ c.in-Ok-Some.field-0-is) in
    let told = told ∙ ap (λ t. whole_kept c.args.position.now c.args.question t true) c.self.view_is in
    let same = same_key c.in-Ok-Some.gone (record { position = c.args.position.now; question = c.args.question }) in
    elim c.if-self.branch [
      | then-self w ↦ w.self-is ∙ c.eq-replaced.ensures ∙ ap (same_key c.in-Ok-Some.gone) c.of.ensures ∙ ap (λ b. b && same) (sym w.if-self.true) ∙ told
      | else-self w ↦ w.self-is ∙ w.if-self.false ∙ ap (λ b. b && same) (sym w.if-self.false) ∙ told
    ]
