use Rattle.std.proofs.Common.{rules, ◌≡◌, ◌<◌, true, inl, inr, subst, slice_index_or, length, ap, sym, ◌∙◌}
use Rattle.std.proofs.lemmas.Option.{slice_get-get_or}
use Rattle.sql_tables.specs.{IsFree}
use Rattle.sql_queries.proofs.RisingLists.{split}
use Rattle.sql_queries.proofs.table.all_free.Goals as goal

pub loop-table_def-preserved : goal.loop-table_def-preserved
loop-table_def-preserved c k d low =
    elim (split k c.loop-table_def.table_def-index low) [
      | inl earlier ↦ c.loop-table_def.invariant k d earlier
      | inr last ↦
          let table_defs = c.args.table_defs.now in
          let reported : c.is_free.result ≡ true = search rules in
          let free : IsFree c.args.schema.now c.table_def-item.result = c.is_free.ensures.0 reported in
          let within : c.loop-table_def.table_def-index < length table_defs = search rules in
          let one = slice_get-get_or table_defs c.loop-table_def.table_def-index c.table_def-item.result within in
          let two = slice_get-get_or table_defs c.loop-table_def.table_def-index d within in
          let same : slice_index_or table_defs c.loop-table_def.table_def-index c.table_def-item.result ≡ slice_index_or table_defs c.loop-table_def.table_def-index d = cc in
          subst (λ table_def. IsFree c.args.schema.now table_def) (c.table_def-item.is ∙ same ∙ ap (λ i. slice_index_or table_defs i d) (sym last)) free
    ]
