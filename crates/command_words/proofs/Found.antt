-- What `clap`'s clauses say of a command.
use Rattle.std.proofs.Common.{◌≡◌, ◌≢◌, inl, inr, List, [], true, refl, subst, unwrap_or}
use Rattle.std.specs.Prelude.{Option, Some, None}
use Rattle.clap.specs.Words.{App, HasKind, HasMatchesOf, Kinds, Text, fault_of, found_of, is_simple_and_free, kind_of, rows_of}
use Rattle.clap.specs.declared.error.Error.{Error}
use Rattle.clap.specs.declared.error.kind.ErrorKind.TheVariants as kind
use Rattle.clap.specs.declared.parser.matches.ArgMatches.{ArgMatches}
use Rattle.command_words.specs.Commands.{IsCovered, faults, rows}

pub taken : (a : App) (ws : List Text) → IsCovered a → (is_simple_and_free a ≡ true → fault_of a ws ≡ []) → faults a ws ≡ []
unfolding faults
taken a ws t h = h t.free

pub refused : (a : App) (ws : List Text) (x : Error) → IsCovered a → kind_of x ≢ kind.OutOfMemory → (is_simple_and_free a ≡ true → HasKind (fault_of a ws) x) → faults a ws ≢ []
unfolding faults
refused a ws x t other h = λ none.
    let empty : HasKind [] x = subst (λ (ks : Kinds). HasKind ks x) none (h t.free) in
    elim empty [ inl m ↦ other m | inr among ↦ among ]

pub same_rows : (a : App) (ws : List Text) (m : ArgMatches) → IsCovered a → HasMatchesOf a ws m → rows_of (found_of m) ≡ rows a ws
unfolding rows
same_rows a ws m t h = (h t.simple).0

pub some_values : (o : Option (List Text)) (xs : List Text) → Some xs ≡ o → xs ≡ unwrap_or o []
some_values None xs e = cc
some_values (Some ys) xs e = cc

pub no_values : (o : Option (List Text)) → None ≡ o → [] ≡ unwrap_or o []
no_values None e = refl
no_values (Some ys) e = cc
