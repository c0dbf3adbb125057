-- `segment_filename::parse` meets its contract: each step's test is the definition's, on the part that the steps before it left.
-- Assumes nothing.
use Rattle.std.proofs.Common.{rules, ◌≡◌, length, ℕ, sym, ap, ◌∙◌, true, List, Bor, subst}
use Rattle.std.specs.Prelude.{Option, Some, None, Ok, Err, MatchOption}
use Rattle.std.specs.Option.{ok_or}
use Rattle.refusal.specs.declared.Refusal.{Refusal}
use Rattle.refusal.specs.declared.Refusal.TheVariants.{PrefixMissing, SuffixMissing, DotMissing}
use Rattle.refusal.specs.Refusals.{outcome}
use Rattle.segment_filename.specs.Words.{same, starts_with, ends_with, behind, before}
use Rattle.segment_filename.specs.Formatting.{dot, suffix}
use Rattle.segment_filename.specs.Parsing.{without_prefix, without_suffix, id_bytes, u32_of}
use Rattle.segment_filename.proofs.Parsing.{parse-refuses-30, parse-refuses-31, parse-refuses-32, parse-refuses-33}
use Rattle.segment_filename.proofs.Parsing.{parse-refuses-34, parse-reads}
use Rattle.segment_filename.proofs.parse.Goals as goal

-- a step that is refused: what it wants isn't there
missing : (P : Type 0) (Q : Bor (List ℕ) → Type 0) (o : Option (Bor (List ℕ))) (r x : Refusal) → MatchOption o P Q → ok_or o r ≡ Err x
    → P × (x ≡ r)
missing P Q None r x m e = (m, cc)
missing P Q (Some y) r x m e = absurd (cc)

-- a step that is passed: it is there
passed : (P : Type 0) (Q : Bor (List ℕ) → Type 0) (o : Option (Bor (List ℕ))) (r : Refusal) (x : Bor (List ℕ)) → MatchOption o P Q
    → ok_or o r ≡ Ok x → Q x
passed P Q None r x m e = absurd (cc)
passed P Q (Some y) r x m e = let same : y ≡ x = cc in subst Q same m

pub returns-then-is_empty : goal.returns-then-is_empty
returns-then-is_empty c =
    let none : length c.args.prefix.now ≡ 0 = search rules in
    sym (parse-refuses-30 c.args.prefix.now c.args.name.now none)

pub returns-in_err-without_prefix : goal.returns-in_err-without_prefix
unfolding starts_with ends_with same
returns-in_err-without_prefix c =
    let prefix-of = c.args.prefix.now in
    let name_of = c.args.name.now in
    let some : length c.args.prefix.now ≡ 0 → ⊥ = search rules in
    let none =
    missing _ _ c.strip_prefix.result PrefixMissing c.in_err-without_prefix.field-0.0 c.strip_prefix.ensures.cases (sym c.ok_or.ensures.value ∙ c.in_err-without_prefix.was) in
    let answer : c.from_residual.result ≡ Err c.in_err-without_prefix.field-0.0 = search rules in
    ap outcome (answer ∙ ap Err none.1) ∙ sym (parse-refuses-31 prefix-of name_of some none.0)

pub returns-in_err-without_suffix : goal.returns-in_err-without_suffix
unfolding starts_with ends_with same
returns-in_err-without_suffix c =
    let prefix-of = c.args.prefix.now in
    let name_of = c.args.name.now in
    let some : length c.args.prefix.now ≡ 0 → ⊥ = search rules in
    let begins =
    passed _ _ c.strip_prefix.result PrefixMissing c.in_ok-without_prefix.without_prefix c.strip_prefix.ensures.cases (sym c.ok_or.ensures.value ∙ c.in_ok-without_prefix.was) in
    let none =
    missing _ _ c.strip_suffix.result SuffixMissing c.in_err-without_suffix.field-0.0 c.strip_suffix.ensures.cases (sym c.ok_or-2.ensures.value ∙ c.in_err-without_suffix.was) in
    let answer : c.from_residual-in_err-without_suffix.result ≡ Err c.in_err-without_suffix.field-0.0 = search rules in
    ap outcome (answer ∙ ap Err none.1) ∙ sym (parse-refuses-32 prefix-of name_of some begins.0 (ap (ends_with suffix) (sym begins.1) ∙ none.0))

pub returns-in_err-ten : goal.returns-in_err-ten
unfolding starts_with ends_with same
returns-in_err-ten c =
    let prefix-of = c.args.prefix.now in
    let name_of = c.args.name.now in
    let some : length c.args.prefix.now ≡ 0 → ⊥ = search rules in
    let begins =
    passed _ _ c.strip_prefix.result PrefixMissing c.in_ok-without_prefix.without_prefix c.strip_prefix.ensures.cases (sym c.ok_or.ensures.value ∙ c.in_ok-without_prefix.was) in
    let ends =
    passed _ _ c.strip_suffix.result SuffixMissing c.in_ok-without_suffix.without_suffix c.strip_suffix.ensures.cases (sym c.ok_or-2.ensures.value ∙ c.in_ok-without_suffix.was) in
    let none =
    missing _ _ c.strip_prefix-2.result DotMissing c.in_err-ten.field-0.0 c.strip_prefix-2.ensures.cases (sym c.ok_or-3.ensures.value ∙ c.in_err-ten.was) in
    let answer : c.from_residual-in_err-ten.result ≡ Err c.in_err-ten.field-0.0 = search rules in
    let ended : ends_with suffix (without_prefix prefix-of name_of) ≡ true = ap (ends_with suffix) (sym begins.1) ∙ ends.0 in
    let stem-is : c.in_ok-without_suffix.without_suffix.now ≡ without_suffix prefix-of name_of =
    ends.1 ∙ ap (before suffix) begins.1 in
    ap outcome (answer ∙ ap Err none.1) ∙ sym (parse-refuses-33 prefix-of name_of some begins.0 ended (ap (starts_with dot) (sym stem-is) ∙ none.0))

pub returns-then-ten-ne10 : goal.returns-then-ten-ne10
unfolding starts_with ends_with same
returns-then-ten-ne10 c =
    let prefix-of = c.args.prefix.now in
    let name_of = c.args.name.now in
    let some : length c.args.prefix.now ≡ 0 → ⊥ = search rules in
    let begins =
    passed _ _ c.strip_prefix.result PrefixMissing c.in_ok-without_prefix.without_prefix c.strip_prefix.ensures.cases (sym c.ok_or.ensures.value ∙ c.in_ok-without_prefix.was) in
    let ends =
    passed _ _ c.strip_suffix.result SuffixMissing c.in_ok-without_suffix.without_suffix c.strip_suffix.ensures.cases (sym c.ok_or-2.ensures.value ∙ c.in_ok-without_suffix.was) in
    let dotted =
    passed _ _ c.strip_prefix-2.result DotMissing c.in_ok-ten.ten c.strip_prefix-2.ensures.cases (sym c.ok_or-3.ensures.value ∙ c.in_ok-ten.was) in
    let ended : ends_with suffix (without_prefix prefix-of name_of) ≡ true = ap (ends_with suffix) (sym begins.1) ∙ ends.0 in
    let stem-is : c.in_ok-without_suffix.without_suffix.now ≡ without_suffix prefix-of name_of =
    ends.1 ∙ ap (before suffix) begins.1 in
    let stemmed : starts_with dot (without_suffix prefix-of name_of) ≡ true = ap (starts_with dot) (sym stem-is) ∙ dotted.0 in
    let ten-is : c.in_ok-ten.ten.now ≡ id_bytes prefix-of name_of = dotted.1 ∙ ap (behind dot) stem-is in
    sym (parse-refuses-34 prefix-of name_of some begins.0 ended stemmed (λ h. c.if-ten-ne10.true (ap length ten-is ∙ h)))

pub returns : goal.returns
unfolding starts_with ends_with same
returns c =
    let prefix-of = c.args.prefix.now in
    let name_of = c.args.name.now in
    let some : length c.args.prefix.now ≡ 0 → ⊥ = search rules in
    let begins =
    passed _ _ c.strip_prefix.result PrefixMissing c.in_ok-without_prefix.without_prefix c.strip_prefix.ensures.cases (sym c.ok_or.ensures.value ∙ c.in_ok-without_prefix.was) in
    let ends =
    passed _ _ c.strip_suffix.result SuffixMissing c.in_ok-without_suffix.without_suffix c.strip_suffix.ensures.cases (sym c.ok_or-2.ensures.value ∙ c.in_ok-without_suffix.was) in
    let dotted =
    passed _ _ c.strip_prefix-2.result DotMissing c.in_ok-ten.ten c.strip_prefix-2.ensures.cases (sym c.ok_or-3.ensures.value ∙ c.in_ok-ten.was) in
    let ended : ends_with suffix (without_prefix prefix-of name_of) ≡ true = ap (ends_with suffix) (sym begins.1) ∙ ends.0 in
    let stem-is : c.in_ok-without_suffix.without_suffix.now ≡ without_suffix prefix-of name_of =
    ends.1 ∙ ap (before suffix) begins.1 in
    let stemmed : starts_with dot (without_suffix prefix-of name_of) ≡ true = ap (starts_with dot) (sym stem-is) ∙ dotted.0 in
    let ten-is : c.in_ok-ten.ten.now ≡ id_bytes prefix-of name_of = dotted.1 ∙ ap (behind dot) stem-is in
    c.parse_u32.ensures ∙ ap u32_of ten-is
    ∙ sym (parse-reads prefix-of name_of some begins.0 ended stemmed (sym (ap length ten-is) ∙ c.if-ten-ne10.false))
