use Rattle.std.proofs.Common.{◌≡◌, ℕ, List, ◌++◌, ◌∙◌, append_assoc, codes}
use Rattle.desk_page.specs.{tag_of}
use Rattle.plant_http.proofs.fixed_text.FixedText.push_validators.Goals as goal

three_after : (text a b c : List ℕ) → ((text ++ a) ++ b) ++ c ≡ text ++ (a ++ (b ++ c))
three_after text a b c = append_assoc (text ++ a) b c ∙ append_assoc text a (b ++ c)

pub returns-clause-text : goal.returns-clause-text
returns-clause-text c =
    rw (c.push-3.ensures.text, c.push-2.ensures.text, c.tag_of.ensures.value, c.push.ensures.text)
    (three_after c.args.self.now (codes "ETag: ") (tag_of c.args.resource) (codes "\r\nCache-Control: no-cache\r\n"))
