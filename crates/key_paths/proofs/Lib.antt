mod Trials
