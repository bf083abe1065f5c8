use Rattle.std.proofs.Common.{◌≡◌, ℕ, List, ◌++◌, ◌∙◌, append_assoc, codes, refl, sym}
use Rattle.plant_http.specs.{policy_bytes}
use Rattle.plant_http.proofs.fixed_text.FixedText.push_security_headers.Goals as goal

five_behind : (text a b c d e : List ℕ) → (((((text ++ a) ++ b) ++ c) ++ d) ++ e) ≡ text ++ (a ++ (b ++ (c ++ (d ++ e))))
five_behind text a b c d e =
    append_assoc (((text ++ a) ++ b) ++ c) d e ∙ append_assoc ((text ++ a) ++ b) c (d ++ e) ∙ append_assoc (text ++ a) b (c ++ (d ++ e)) ∙ append_assoc text a (b ++ (c ++ (d ++ e)))

pub returns-then-is_page-clause-text : goal.returns-then-is_page-clause-text
returns-then-is_page-clause-text c =
    let is_page = sym c.is_page.ensures ∙ c.if-is_page.true in
    let first = c.push.ensures.text in
    let second = c.push-then-is_page.ensures.text in
    let third = c.push-then-is_page-2.ensures.text in
    let fourth = c.push-then-is_page-3.ensures.text in
    let fifth = c.push-then-is_page-4.ensures.text in
    rw (is_page, fifth, fourth, c.policy.ensures.value, third, second, first)
    (five_behind c.args.self.now (codes "X-Frame-Options: DENY\r\n") (codes "X-Content-Type-Options: nosniff\r\n") (codes "Content-Security-Policy: ") policy_bytes (codes "\r\n"))

pub returns-else-is_page-clause-text : goal.returns-else-is_page-clause-text
returns-else-is_page-clause-text c =
    let is_page = sym c.is_page.ensures ∙ c.if-is_page.false in
    rw (is_page, c.push-else-is_page.ensures.text) refl
